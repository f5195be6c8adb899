-- The key and value data of KTX 1 and KTX 2, as far as it tells which row comes first. It is a run of entries: the size of each in four
-- bytes, so many bytes of a key, a 0 and a value, and padding up to a multiple of four. Data that is no such run tells nothing.
-- Assumes nothing.
use Rattle.std.specs.Prelude.{Bool, cond, ◌&&◌, ◌||◌, List, ℕ, zero, suc, ◌+◌, ◌-◌, ◌*◌, ◌/◌, eqb, ltb, length}
use Rattle.rules.specs.FileFormats.{word32, has4}
use Rattle.rules.specs.declared.Orientation.{Orientation}
use Rattle.rules.specs.declared.Orientation.TheVariants.{Untold, TopDown, BottomUp}

-- "KTXorientation" and a 0, at a byte; Qt writes "KTXOrientation"
unfoldable pub is_orientation_lem : List ℕ → ℕ → Bool
is_orientation_lem d at =
    (has4 d at 0x4B54586F || has4 d at 0x4B54584F)
    && (has4 d (at + 4) 0x7269656E && (has4 d (at + 8) 0x74617469 && has4 d (at + 11) 0x696F6E00))

-- which row comes first: four bytes at a place say the one or the other
abbrev pub rows_by : List ℕ → ℕ → ℕ → ℕ → Orientation
rows_by d at down up = cond (has4 d at down) TopDown (cond (has4 d at up) BottomUp Untold)

-- of KTX 1, ",T=d" or ",T=u" behind "S=r", of an entry of 22 bytes or more; of KTX 2, "rd" or "ru" behind the key's "n" and 0, of 17
unfoldable pub rows_told_lem : Bool → List ℕ → ℕ → ℕ → Orientation
rows_told_lem second d at size =
    cond second (cond (ltb size 17) Untold (rows_by d (at + 13) 0x6E007264 0x6E007275))
    (cond (ltb size 22) Untold (rows_by d (at + 18) 0x2C543D64 0x2C543D75))

-- what the entries from a byte up to another tell, in at most so many turns; the last that tells decides
unfoldable pub rows_in_lem : Bool → Bool → List ℕ → ℕ → ℕ → ℕ → Orientation → Orientation
rows_in_lem second order d stop zero at told = Untold
rows_in_lem second order d stop (suc turns) at told =
    cond (eqb at stop) told
    (cond (ltb stop (at + 4)) Untold
    (cond (ltb (stop - (at + 4)) ((word32 order d at + 3) / 4 * 4)) Untold
    (rows_in_lem second order d stop turns (at + 4 + (word32 order d at + 3) / 4 * 4)
    (cond (is_orientation_lem d (at + 4)) (rows_told_lem second d (at + 4) (word32 order d at)) told))))

-- each entry has four bytes or more, so that as many turns as there are bytes reach the end
unfoldable pub orientation_of : Bool → Bool → List ℕ → ℕ → ℕ → Orientation
orientation_of second order d start size =
    cond (ltb (length d) start) Untold
    (cond (ltb (length d - start) size) Untold
    (rows_in_lem second order d (start + size) (length d) start Untold))
