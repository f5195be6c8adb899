-- Files: the container is known by its first bytes, and what opening a file and asking for a level answer, for all bytes.
-- Assumes nothing.
use Rattle.std.specs.Prelude.{cond, List, [], ◌∷◌, ◌≡◌, ℕ, Result, Ok, Err}
use Rattle.rules.specs.Answers.{said_with}
use Rattle.rules.specs.FileFormats.{format_number, container_number, orientation_number, flag}
use Rattle.rules.specs.FileLevels.{held_of, opened_by, found_by}
use Rattle.rules.specs.Pkm.{is_pkm, pkm_of}
use Rattle.rules.specs.Ktx1.{is_ktx1_lem, ktx1_of}
use Rattle.rules.specs.Ktx2.{is_ktx2_lem, ktx2_of}
use Rattle.rules.specs.Dds.{is_dds, dds_of}
use Rattle.rules.specs.SheetFile.{is_sheet_lem, sheet_header}
use Rattle.rules.specs.declared.Refusal.TheVariants.{UnknownContainer}
use Rattle.rules.specs.declared.Refusal.{Refusal}
use Rattle.rules.specs.declared.Layout.{Layout}
use Rattle.rules.specs.declared.FileFacts.{FileFacts}
use Rattle.rules.specs.declared.FileLevel.{FileLevel}

-- what the header of a file tells
unfoldable pub header_of : List ℕ → Result Layout Refusal
header_of d =
    cond (is_pkm d) (pkm_of d)
    (cond (is_dds d) (dds_of d)
    (cond (is_ktx1_lem d) (ktx1_of d)
    (cond (is_ktx2_lem d) (ktx2_of d)
    (cond (is_sheet_lem d) (sheet_header d)
    (Err UnknownContainer)))))

-- a refused header refuses the file
unfoldable pub opened_as : List ℕ → Result Layout Refusal → Result FileFacts Refusal
opened_as d (Ok l) = opened_by l (held_of l d 0)
opened_as d (Err a) = Err a

unfoldable pub found_as : List ℕ → ℕ → Result Layout Refusal → Result FileLevel Refusal
found_as d n (Ok l) = found_by l n (held_of l d n)
found_as d n (Err a) = Err a

-- what an answer says on paper: 0 with the nine numbers, or a refusal's
abbrev pub file_values : FileFacts → List ℕ
file_values f =
    container_number f.container
    ∷ format_number f.format
    ∷ flag f.srgb
    ∷ f.width
    ∷ f.height
    ∷ f.levels
    ∷ flag f.big_endian
    ∷ orientation_number f.orientation
    ∷ f.left_over
    ∷ []

abbrev pub opened_said : Result FileFacts Refusal → List ℕ
opened_said = said_with file_values

abbrev pub found_said : Result FileLevel Refusal → List ℕ
found_said = said_with (λ l. l.width ∷ l.height ∷ l.start ∷ l.length ∷ [])

-- Opening a file.
unfoldable pub opened_verdict : List ℕ → List ℕ
opened_verdict d = opened_said (opened_as d (header_of d))

abbrev pub OpensFile : List ℕ → Result FileFacts Refusal → Type 0
OpensFile d r = opened_said r ≡ opened_verdict d

-- Asking for level n.
unfoldable pub found_verdict : List ℕ → ℕ → List ℕ
found_verdict d n = found_said (found_as d n (header_of d))

abbrev pub FindsLevel : List ℕ → ℕ → Result FileLevel Refusal → Type 0
FindsLevel d n r = found_said r ≡ found_verdict d n
