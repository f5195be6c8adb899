-- Four colours as sixteen bytes, the lanes of vector code: blue, green, red and alpha of each in turn. Lane i is a formula of i in
-- numbers of sixteen bits, the same for all lanes, so that eight of them are computed at once.
-- Assumes nothing.
use Rattle.std.specs.Prelude.{cond, List, [], ◌∷◌, ℕ, ◌+◌, ◌*◌, ◌/◌, ◌%◌, eqb, get_or}

-- what moves the bits of channel c to the top of sixteen, from there to the bottom, and widens them to eight, times 16
abbrev pub lift : ℕ → ℕ
lift c = cond (eqb c 0) 2048 (cond (eqb c 1) 32 (cond (eqb c 2) 1 0))

abbrev pub fall : ℕ → ℕ
fall c = cond (eqb c 0) 32 (cond (eqb c 1) 64 (cond (eqb c 2) 32 0))

abbrev pub spread : ℕ → ℕ
spread c = cond (eqb c 0) 132 (cond (eqb c 1) 65 (cond (eqb c 2) 132 0))

-- channel c of a colour of sixteen bits: 0 blue, 1 green, 2 red; and 0 for alpha
abbrev pub channel : ℕ → ℕ → ℕ
channel q c = q * lift c % 65536 * fall c / 65536 * spread c % 65536 / 16

-- x times a and y times b
abbrev pub sum : ℕ → ℕ → ℕ → ℕ → ℕ
sum a b x y = (a * x % 65536 + b * y % 65536) % 65536

-- x sixths of a and y of b
abbrev pub sixths : ℕ → ℕ → ℕ → ℕ → ℕ
sixths a b x y = sum a b x y * 10923 / 65536

-- the parts of a colour in colour k: all in its own, and in colours 2 and 3 a half and none, or so many more where f is 1, and there are
-- four
abbrev pub parts_lem : ℕ → ℕ → ℕ → ℕ → ℕ → ℕ
parts_lem own third last f k = (cond (eqb k own) 6 (cond (eqb k 2) 3 0) + f * cond (eqb k 2) third (cond (eqb k 3) last 0) % 65536) % 65536

-- those of the first colour, and of the second
abbrev pub first_parts_lem : ℕ → ℕ → ℕ
first_parts_lem = parts_lem 0 1 2

abbrev pub second_parts_lem : ℕ → ℕ → ℕ
second_parts_lem = parts_lem 1 65535 4

-- 255 in the lanes of alpha; where t is 1, one more in the last of them, which then is 0
abbrev pub alpha_lane_lem : ℕ → ℕ → ℕ
alpha_lane_lem t i = (cond (eqb (i % 4) 3) 255 0 + t * cond (eqb i 15) 1 0 % 65536) % 65536

unfoldable pub lane : ℕ → ℕ → ℕ → ℕ → ℕ → ℕ
lane f t p q i =
    (sixths (channel p (i % 4)) (channel q (i % 4)) (first_parts_lem f (i / 4)) (second_parts_lem f (i / 4))
    + alpha_lane_lem t i) % 65536 % 256

-- four bytes of a list, the first lowest
abbrev pub word_at : List ℕ → ℕ → ℕ
word_at l i = get_or l i 0 + get_or l (i + 1) 0 * 256 + get_or l (i + 2) 0 * 65536 + get_or l (i + 3) 0 * 16777216

abbrev pub words_of : List ℕ → List ℕ
words_of l = word_at l 0 ∷ word_at l 4 ∷ word_at l 8 ∷ word_at l 12 ∷ []
