-- The checks of an end as the checks of a picture: with an image that is long enough for every picture.
-- Assumes nothing.
use Rattle.std.proofs.Common.{◌≡◌, [], ◌∷◌, ℕ, ◌*◌}
use Rattle.rules.specs.Places.{blocks}
use Rattle.rules.specs.Answers.{verdict, picture_checks, limit_check, pitch_check, data_check}
use Rattle.rules.specs.declared.Picture.{Picture}
use Rattle.picture.proofs.Room.{long_enough, most}

-- no check of the image is left out that could fail
pub without_image : (s : ℕ) (pic : Picture) (bytes : ℕ)
    → verdict (picture_checks s pic bytes 0x100000000) ≡ verdict (limit_check pic ∷ pitch_check pic ∷ data_check (blocks pic * s) bytes ∷ [])
without_image s pic bytes = long_enough pic 0x100000000 (most pic) (pitch_check pic ∷ data_check (blocks pic * s) bytes ∷ []) (0 ∷ [])
