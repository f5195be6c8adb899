-- All eleven bits (M-110 of document 02): the whole value of a pixel of an EAC channel, the byte that is taken from it, and the readers
-- that put whole values into an image of 16-bit numbers. Its own sentences stand in quotes above the definitions that they become.
-- Assumes nothing.
use Rattle.std.specs.Prelude.{Bool, true, false, cond, List, [], ◌∷◌, ℕ, ◌*◌, ◌/◌, ◌%◌, ◌^◌, ℤ, pos, nat_abs, ◌+ℤ◌, ◌*ℤ◌, length, drop}
use Rattle.std.specs.Int.Signed.{lt_z}
use Rattle.rules.specs.Notation.{byte, bits, minus, modulo}
use Rattle.rules.specs.Pixel.{Shows}
use Rattle.rules.specs.Places.{inside, needed, blocks, pixel_at, painted}
use Rattle.rules.specs.Answers.{Answer, Check, limit_check, pitch_check, data_check, image_check, verdict, Outcome}
use Rattle.rules.specs.Channels.{signed_base, multiplier, alpha_step}
use Rattle.rules.specs.declared.Picture.{Picture}

-- "0 to 2047 unsigned, -1023 to 1023 signed"
abbrev pub least : Bool → ℤ
least false = pos 0
least true = minus 1023

abbrev pub most : Bool → ℤ
most false = pos 2047
most true = pos 1023

-- "clamped by the Khronos rule": z, clamped to low..high
abbrev pub between : ℤ → ℤ → ℤ → ℤ
between low high z = cond (lt_z z low) low (cond (lt_z high z) high z)

-- the value in the middle of a block's: document 01's "8 * b0 + 4", and of a signed block 8 times the signed base, to which its byte
-- adds 1023
abbrev pub middle : Bool → ℕ → ℤ
middle false b = pos 8 *ℤ pos b +ℤ pos 4
middle true b = pos 8 *ℤ signed_base b

-- "The inner channel reading should yield the whole value": of pixel (x, y)
unfoldable pub eac_whole_lem : Bool → List ℕ → ℕ → ℕ → ℤ
eac_whole_lem signed d x y =
    between (least signed) (most signed) (middle signed (byte d 0) +ℤ pos (multiplier (bits 7 4 (byte d 1))) *ℤ alpha_step d x y)

-- "The byte readers then take it divided by 8, the signed one after adding 1023, rounded down": what is divided is not negative
abbrev pub added : Bool → ℕ
added false = 0
added true = 1023

abbrev pub byte_from : Bool → ℤ → ℕ
byte_from signed v = nat_abs (v +ℤ pos (added signed)) / 8

-- "16-bit numbers": a value as sixteen bits, a negative one in two's complement
abbrev pub sixteen : ℤ → ℕ
sixteen v = modulo v (2 ^ 16)

-- "R and RG readers .. RG as red then green": number c of a pixel, 0 of the first eight bytes of its block and 1 of the next eight
unfoldable pub whole_pixel : Bool → ℕ → Shows
whole_pixel signed c d x y = sixteen (eac_whole_lem signed (drop (8 * c) d) x y)

-- "for RG the image length rule and places are doubled, the data length and the pitch, in pixels, are not": with n numbers to a pixel,
-- number c of the pixel at element e of a picture is element n * e + c of the image, so that element k is number k % n of pixel k / n
abbrev pub whole_at : Bool → ℕ → Picture → List ℕ → ℕ → ℕ
whole_at signed n p d k = pixel_at (whole_pixel signed (k % n)) (n * 8) p d (k / n)

abbrev pub whole_picture : Bool → ℕ → Picture → List ℕ → List ℕ → List ℕ
whole_picture signed n p d image = painted (λ k. inside p (k / n)) (whole_at signed n p d) image

-- "with 01's refusals and 12"
abbrev pub whole_checks : ℕ → Picture → ℕ → ℕ → List Check
whole_checks n p bytes elements =
    limit_check p ∷ pitch_check p ∷ data_check (blocks p * (n * 8)) bytes ∷ image_check (n * needed p) elements ∷ []

abbrev pub whole_verdict : ℕ → Picture → List ℕ → List ℕ → List ℕ
whole_verdict n p d image = verdict (whole_checks n p (length d) (length image))

-- A reader of whole values, n to a pixel: bytes d, a picture's description and an image go in; an answer and the image come out.
abbrev pub ReadsWhole : Bool → ℕ → List ℕ → Picture → List ℕ → Answer → List ℕ → Type 0
ReadsWhole signed n d p image answer new = Outcome (whole_verdict n p d image) (whole_picture signed n p d image) answer image new
