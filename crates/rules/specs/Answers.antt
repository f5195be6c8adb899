-- The answers, what each says on paper, and the order of the checks.
-- Assumes nothing.
use Rattle.std.specs.Prelude.{Bool, cond, ◌||◌, List, [], ◌∷◌, ◌≡◌, ℕ, zero, suc, ◌*◌, ltb, eqb, get_or, Result, Ok, Err, ⊤}
use Rattle.rules.specs.Places.{needed, blocks}
use Rattle.rules.specs.declared.Picture.{Picture}
use Rattle.rules.specs.declared.Refusal.{Refusal}
use Rattle.rules.specs.declared.Refusal.TheVariants.{TooLarge, ShortData, ShortImage, OutOfRange, NoChannel, LongData}
use Rattle.rules.specs.declared.Refusal.TheVariants.{CutShort, NoHead, OtherKind, WrongBlocks, NotOpaque, ShortPitch}
use Rattle.rules.specs.declared.Refusal.TheVariants.{HeaderCut, UnknownContainer, UnknownVersion, UnknownFormat, SizesDisagree}
use Rattle.rules.specs.declared.Refusal.TheVariants.{NotFlat, NoPixel, LevelsMissing, NoLevel, Supercompressed}

-- the table of refusals: the number of each, and what it "also returns"
abbrev pub refusal_said : Refusal → List ℕ
refusal_said TooLarge = 1 ∷ []
refusal_said ShortData = 2 ∷ []
refusal_said ShortImage = 3 ∷ []
refusal_said (OutOfRange n) = 4 ∷ n ∷ []
refusal_said NoChannel = 5 ∷ []
refusal_said LongData = 6 ∷ []
refusal_said CutShort = 7 ∷ []
refusal_said NoHead = 8 ∷ []
refusal_said OtherKind = 9 ∷ []
refusal_said WrongBlocks = 10 ∷ []
refusal_said (NotOpaque n) = 11 ∷ n ∷ []
refusal_said ShortPitch = 12 ∷ []
refusal_said HeaderCut = 20 ∷ []
refusal_said UnknownContainer = 21 ∷ []
refusal_said UnknownVersion = 22 ∷ []
refusal_said UnknownFormat = 23 ∷ []
refusal_said SizesDisagree = 24 ∷ []
refusal_said NotFlat = 25 ∷ []
refusal_said NoPixel = 26 ∷ []
refusal_said LevelsMissing = 37 ∷ []
refusal_said NoLevel = 38 ∷ []
refusal_said Supercompressed = 41 ∷ []

-- an answer on paper: 0 with the values of what is handed out, or a refusal
abbrev pub said_with : {A : Type 0} → (A → List ℕ) → Result A Refusal → List ℕ
said_with values (Ok a) = 0 ∷ values a
said_with values (Err r) = refusal_said r

-- the answer of what hands out nothing: "done", or a refusal
abbrev pub Answer : Type 0
Answer = Result ⊤ Refusal

abbrev pub said : Answer → List ℕ
said = said_with (λ u. [])

-- the answer alone, without what is handed out; and what is handed out, where the answer is "done"
abbrev pub answered : {A : Type 0} → Result A Refusal → Answer
answered (Ok a) = Ok tt
answered (Err r) = Err r

abbrev pub given : {A : Type 0} → Answer → A → Result A Refusal
given (Ok u) a = Ok a
given (Err r) a = Err r

-- every answer, with the value that some of them return
abbrev pub answers : List (ℕ → Answer)
answers =
    (λ n. Ok tt)
    ∷ (λ n. Err TooLarge)
    ∷ (λ n. Err ShortData)
    ∷ (λ n. Err ShortImage)
    ∷ (λ n. Err (OutOfRange n))
    ∷ (λ n. Err NoChannel)
    ∷ (λ n. Err LongData)
    ∷ (λ n. Err CutShort)
    ∷ (λ n. Err NoHead)
    ∷ (λ n. Err OtherKind)
    ∷ (λ n. Err WrongBlocks)
    ∷ (λ n. Err (NotOpaque n))
    ∷ (λ n. Err ShortPitch)
    ∷ (λ n. Err HeaderCut)
    ∷ (λ n. Err UnknownContainer)
    ∷ (λ n. Err UnknownVersion)
    ∷ (λ n. Err UnknownFormat)
    ∷ (λ n. Err SizesDisagree)
    ∷ (λ n. Err NotFlat)
    ∷ (λ n. Err NoPixel)
    ∷ (λ n. Err LevelsMissing)
    ∷ (λ n. Err NoLevel)
    ∷ (λ n. Err Supercompressed)
    ∷ []

-- and the answer that says a number and a value: the first of them with that number
abbrev pub find_answer : List (ℕ → Answer) → ℕ → ℕ → Answer
find_answer [] n v = Ok tt
find_answer (a ∷ rest) n v = cond (eqb (get_or (said (a 0)) 0 0) n) (a v) (find_answer rest n v)

abbrev pub answer_of : List ℕ → Answer
answer_of l = find_answer answers (get_or l 0 0) (get_or l 1 0)

-- number 0 is "done", and every other is a refusal
abbrev pub accepts : List ℕ → Bool
accepts verdict = eqb (get_or verdict 0 0) 0

-- A row of that table as a check: the refusal's number, and whether it fails, "given exactly when".
pub record Check : Type 0 where
  pub number : ℕ
  pub fails : Bool

abbrev pub refusal : ℕ → Bool → Check
refusal n due = record { number = n; fails = due }

-- "Pictures check 1, 2, 3, 4 in that order": the first check that fails is the answer, and where none does, what comes then
abbrev pub judged : List Check → List ℕ → List ℕ
judged [] then = then
judged (c ∷ cs) then = cond c.fails (c.number ∷ []) (judged cs then)

-- "width or height above 16,384": the check over any limit
abbrev pub too_large_lem : ℕ → Picture → Bool
too_large_lem most p = ltb most p.width || ltb most p.height

abbrev pub sides_check : ℕ → Picture → Check
sides_check most p = refusal 1 (too_large_lem most p)

-- "The limit in refusal 1 rises to 65,536 for width, height and pitch." (M-104)
abbrev pub limit : ℕ
limit = 65536

abbrev pub over_limit_lem : Picture → Bool
over_limit_lem p = too_large_lem limit p || ltb limit p.pitch

abbrev pub limit_check : Picture → Check
limit_check p = refusal 1 (over_limit_lem p)

-- "A pitch below the width is refused with 12" (M-104)
abbrev pub pitch_check : Picture → Check
pitch_check p = refusal 12 (ltb p.pitch p.width)

-- "fewer bytes than blocks * block size": than are needed
abbrev pub data_check : ℕ → ℕ → Check
data_check needed bytes = refusal 2 (ltb bytes needed)

-- "fewer image elements than width * height", or than M-104 asks for: likewise
abbrev pub image_check : ℕ → ℕ → Check
image_check needed elements = refusal 3 (ltb elements needed)

-- "channel above 3"
abbrev pub channel_check : ℕ → Check
channel_check channel = refusal 5 (ltb 3 channel)

-- "Pictures check 1, 2, 3, 4 in that order", and 12 is "tested after 1" (M-104): 1, 12, 2 and 3, of a picture in blocks of s bytes,
-- given so many bytes and an image of so many elements
abbrev pub picture_checks : ℕ → Picture → ℕ → ℕ → List Check
picture_checks s p bytes elements =
    limit_check p ∷ pitch_check p ∷ data_check (blocks p * s) bytes ∷ image_check (needed p) elements ∷ []

-- "the strict reader refuses with 6 when there are more bytes than the blocks need" (M-107)
abbrev pub leftover_check : ℕ → ℕ → Check
leftover_check needed bytes = refusal 6 (ltb needed bytes)

-- those four, and 6, "tested after 2 and before 3" (M-107): of a reader that wants "an exact data length"
abbrev pub exact_checks : ℕ → Picture → ℕ → ℕ → List Check
exact_checks s p bytes elements =
    limit_check p
    ∷ pitch_check p
    ∷ data_check (blocks p * s) bytes
    ∷ leftover_check (blocks p * s) bytes
    ∷ image_check (needed p) elements
    ∷ []

-- the checks of what is lent no image: 1 and 2, "in that order", and where the length must be exact, 6 after them
abbrev pub data_checks : ℕ → Picture → ℕ → List Check
data_checks s p bytes = sides_check limit p ∷ data_check (blocks p * s) bytes ∷ []

abbrev pub exact_data_checks : ℕ → Picture → ℕ → List Check
exact_data_checks s p bytes =
    sides_check limit p ∷ data_check (blocks p * s) bytes ∷ leftover_check (blocks p * s) bytes ∷ []

-- the verdict of a reader that has nothing more to check
abbrev pub verdict : List Check → List ℕ
verdict checks = judged checks (0 ∷ [])

-- the first of the places 0 .. n - 1 at which a test holds, or n where there is none
unfoldable pub first_of : (ℕ → Bool) → ℕ → ℕ
first_of test zero = zero
first_of test (suc n) = cond (ltb (first_of test n) n) (first_of test n) (cond (test n) n (suc n))

-- check 4, and 11, over the number and the test that a block must not meet: "number of the first such block, from 0"
abbrev pub guarded : ℕ → (ℕ → Bool) → ℕ → List ℕ
guarded number test n = cond (ltb (first_of test n) n) (number ∷ first_of test n ∷ []) (0 ∷ [])

-- "block readers check 5, then 2 (fewer than 8 or 16 bytes), then 3 (fewer than 16 elements)"
abbrev pub block_checks : ℕ → ℕ → ℕ → List Check
block_checks s bytes elements = data_check s bytes ∷ image_check 16 elements ∷ []

abbrev pub channel_checks : ℕ → ℕ → ℕ → List Check
channel_checks channel bytes elements = channel_check channel ∷ block_checks 8 bytes elements

-- "On 1 to 5 no element changes", and so on every later refusal: what is left of an image that `after` would have painted
abbrev pub left : List ℕ → List ℕ → List ℕ → List ℕ
left verdict after old = cond (accepts verdict) after old

-- What every reader owes its caller: it says the verdict, and leaves the image so.
pub record Outcome (verdict after : List ℕ) (answer : Answer) (old new : List ℕ) : Type 0 where
  pub says : said answer ≡ verdict
  pub leaves : new ≡ left verdict after old
