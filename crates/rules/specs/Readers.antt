-- The promises of the public readers: for each, the answer and every element of the lent image afterwards, for all inputs.
-- Assumes nothing.
use Rattle.std.specs.Prelude.{Bool, List, ◌≡◌, ℕ, ◌/◌, ◌%◌, ltb, length, get_or}
use Rattle.rules.specs.Pixel.{Shows}
use Rattle.rules.specs.Places.{bytes_of, painted, picture_by}
use Rattle.rules.specs.Answers.{Answer, said, Check, verdict, picture_checks, exact_checks, data_checks, exact_data_checks}
use Rattle.rules.specs.Answers.{block_checks, channel_checks, Outcome}
use Rattle.rules.specs.Channels.{with_alpha, alpha_byte, eac_byte, or_channel}
use Rattle.rules.specs.Desktop.{bc3_alpha, replaced}
use Rattle.rules.specs.Formats.{size_of, shows_of}
use Rattle.rules.specs.Guards.{Guard, guard_verdict, in_range, opaque_only}
use Rattle.rules.specs.declared.Format.{Format}
use Rattle.rules.specs.declared.Picture.{Picture}

-- the image with a picture of format f painted over it: "An accepted picture alters only its own width times height pixels", which are
-- M-104's elements
abbrev pub picture_of : Format → Picture → List ℕ → List ℕ → List ℕ
picture_of f p d image = picture_by (shows_of f) (bytes_of (size_of f) d) p image

-- the verdict of the reader of format f
abbrev pub picture_verdict : Format → Picture → List ℕ → List ℕ → List ℕ
picture_verdict f p d image = verdict (picture_checks (size_of f) p (length d) (length image))

-- A picture reader: bytes d, a picture's description and an image go in; an answer and the image come out.
abbrev pub ReadsPicture : Format → List ℕ → Picture → List ℕ → Answer → List ℕ → Type 0
ReadsPicture f d p image answer new = Outcome (picture_verdict f p d image) (picture_of f p d image) answer image new

-- A reader with a guard, after its checks.
abbrev pub ReadsGuarded : Guard → List Check → List ℕ → Picture → List ℕ → Answer → List ℕ → Type 0
ReadsGuarded g checks d p image answer new =
    Outcome (guard_verdict g checks p d) (picture_of g.shown p d image) answer image new

-- strict ETC1, "1, 2, 3, 4 in that order", with 12 after 1 (M-104) and 6 after 2 (M-107)
abbrev pub strict_checks : Picture → List ℕ → List ℕ → List Check
strict_checks p d image = exact_checks 8 p (length d) (length image)

abbrev pub strict_verdict : Picture → List ℕ → List ℕ → List ℕ
strict_verdict p d image = guard_verdict in_range (strict_checks p d image) p d

abbrev pub ReadsStrict : List ℕ → Picture → List ℕ → Answer → List ℕ → Type 0
ReadsStrict d p image answer new = ReadsGuarded in_range (strict_checks p d image) d p image answer new

-- RGBA1 for an opaque-only viewer: "Checks 1, 12, 2, 3 come first" (M-109)
abbrev pub opaque_checks : Picture → List ℕ → List ℕ → List Check
opaque_checks p d image = picture_checks 8 p (length d) (length image)

abbrev pub opaque_verdict : Picture → List ℕ → List ℕ → List ℕ
opaque_verdict p d image = guard_verdict opaque_only (opaque_checks p d image) p d

abbrev pub ReadsOpaque : List ℕ → Picture → List ℕ → Answer → List ℕ → Type 0
ReadsOpaque d p image answer new = ReadsGuarded opaque_only (opaque_checks p d image) d p image answer new

-- "Check without painting": "answer as the strict and opaque-only readers would, with the first bad block, and need no image"
abbrev pub strict_check : Picture → List ℕ → List ℕ
strict_check p d = guard_verdict in_range (exact_data_checks 8 p (length d)) p d

abbrev pub ChecksStrict : List ℕ → Picture → Answer → Type 0
ChecksStrict d p answer = said answer ≡ strict_check p d

abbrev pub opaque_check : Picture → List ℕ → List ℕ
opaque_check p d = guard_verdict opaque_only (data_checks 8 p (length d)) p d

abbrev pub ChecksOpaque : List ℕ → Picture → Answer → Type 0
ChecksOpaque d p answer = said answer ≡ opaque_check p d

-- "A block reader writes elements 0 to 15 only, row by row."
abbrev pub block_painted : (ℕ → ℕ) → List ℕ → List ℕ
block_painted v image = painted (λ k. ltb k 16) v image

-- the verdict of a reader of blocks of s bytes
abbrev pub block_verdict : ℕ → List ℕ → List ℕ → List ℕ
block_verdict s d image = verdict (block_checks s (length d) (length image))

-- A block reader of format f.
abbrev pub ReadsBlock : Format → List ℕ → List ℕ → Answer → List ℕ → Type 0
ReadsBlock f d image answer new =
    Outcome (block_verdict (size_of f) d image)
    (block_painted (λ k. shows_of f d (k % 4) (k / 4)) image)
    answer
    image
    new

-- The reader of the alpha half alone.
abbrev pub alpha_painted : List ℕ → List ℕ → List ℕ
alpha_painted d image = block_painted (λ k. with_alpha (get_or image k 0) (alpha_byte d (k % 4) (k / 4))) image

abbrev pub ReadsAlpha : List ℕ → List ℕ → Answer → List ℕ → Type 0
ReadsAlpha d image answer new =
    Outcome (block_verdict 8 d image) (alpha_painted d image) answer image new

-- The readers of a single channel, over how a byte joins what stood there and over the byte that eight bytes give a pixel.
abbrev pub channel_verdict : ℕ → List ℕ → List ℕ → List ℕ
channel_verdict channel d image = verdict (channel_checks channel (length d) (length image))

abbrev pub joined_painted : (ℕ → ℕ → ℕ → ℕ) → Shows → List ℕ → ℕ → List ℕ → List ℕ
joined_painted join gives d channel image = block_painted (λ k. join channel (get_or image k 0) (gives d (k % 4) (k / 4))) image

abbrev pub JoinsChannel : (ℕ → ℕ → ℕ → ℕ) → Shows → List ℕ → ℕ → List ℕ → Answer → List ℕ → Type 0
JoinsChannel join gives d channel image answer new =
    Outcome (channel_verdict channel d image) (joined_painted join gives d channel image) answer image new

-- Of EAC, unsigned and signed.

abbrev pub channel_painted : Bool → List ℕ → ℕ → List ℕ → List ℕ
channel_painted signed d channel image = joined_painted or_channel (eac_byte signed) d channel image

abbrev pub ReadsChannel : Bool → List ℕ → ℕ → List ℕ → Answer → List ℕ → Type 0
ReadsChannel signed d channel image answer new = JoinsChannel or_channel (eac_byte signed) d channel image answer new

-- The reader of a BC3 alpha half into any channel: "ours stops after element 15 and refuses a channel above 3 with 5" (M-106).
abbrev pub replaced_painted : List ℕ → ℕ → List ℕ → List ℕ
replaced_painted d channel image = joined_painted replaced bc3_alpha d channel image

abbrev pub ReplacesChannel : List ℕ → ℕ → List ℕ → Answer → List ℕ → Type 0
ReplacesChannel d channel image answer new = JoinsChannel replaced bc3_alpha d channel image answer new
