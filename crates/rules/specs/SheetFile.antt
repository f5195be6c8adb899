-- Sheets as files: their first record is a head of nine bytes, so that they begin with 09 00 00 00 01 00. What they hold and when they are
-- refused, specs/Sheets.antt says.
-- Assumes nothing.
use Rattle.std.specs.Prelude.{Bool, true, false, ◌&&◌, List, ℕ, Result}
use Rattle.rules.specs.Answers.{answer_of, given}
use Rattle.rules.specs.Records.{records_of, later, payload_at}
use Rattle.rules.specs.Sheets.{format_of, format_in, size_in, head_in, head_verdict}
use Rattle.rules.specs.FileFormats.{has4}
use Rattle.rules.specs.declared.Container.TheVariants.{Sheet}
use Rattle.rules.specs.declared.Orientation.TheVariants.{Untold}
use Rattle.rules.specs.declared.Layout.{Layout}
use Rattle.rules.specs.declared.Refusal.{Refusal}

-- bytes 0 to 3, and 2 to 5
abbrev pub is_sheet_lem : List ℕ → Bool
is_sheet_lem d = has4 d 0 0x09000000 && has4 d 2 0x00000100

-- the blocks start where the payload of the first record behind the head's 15 bytes does, of those that are not skipped
abbrev pub sheet_layout : List ℕ → Layout
sheet_layout d =
    record {
      container = Sheet;
      format = format_of (format_in (head_in d));
      srgb = false;
      width = (size_in (head_in d)).width;
      height = (size_in (head_in d)).height;
      levels = 1;
      big_endian = false;
      orientation = Untold;
      start = payload_at 15 (later (records_of d));
      agrees = true;
    }

-- refused as the head's reader refuses
unfoldable pub sheet_header : List ℕ → Result Layout Refusal
sheet_header d = given (answer_of (head_verdict d)) (sheet_layout d)
