-- The products that alpha is moved by: small, so that every type holds them, and multiplier times step at each pixel.
-- Assumes nothing.
use mathlib.Core.Path.{◌≡◌, ◌∙◌, ap}
use mathlib.Core.List.{List, []}
use Prim.Native.Nat.{ℕ, ◌+◌, ◌*◌, ◌/◌, ◌%◌, ◌<◌}
use native.Mathlib.Omega.{arith}
use lib.Dec.{lit<}
use lib.IntN.{ℤ, pos, ◌+ℤ◌, ◌*ℤ◌}
use lib.ListN.{get_or}
use lib.Signed.{mag}
use mir.Syntax.{w16}
use Rattle.rules.specs.Notation.{byte, bits, build, clamp}
use Rattle.rules.specs.Channels.{alpha_steps_lem, alpha_index, alpha_step, alpha_byte}
use Rattle.laws.proofs.Every.{every, below}
use Rattle.laws.proofs.Filled.{get_or_build}
use Rattle.laws.proofs.Signed.{small, small_at, clamp_le, held, held_small}
use Rattle.tables.specs.products.Products.{products_of_lem}
use Rattle.etc_alpha.specs.picks.Picks.{pick_at}
use Rattle.etc_alpha.specs.channel.Alphas.{eight_alphas_lem}
use Rattle.etc_alpha.proofs.channel.Steps.{step_at}

-- the eight products of a block, and the one of place k
abbrev pub products_in : List ℕ → List ℤ
products_in d = products_of_lem (bits 7 4 (byte d 1)) (bits 3 0 (byte d 1))

abbrev pub move_at : List ℕ → ℕ → ℤ
move_at d k = pos (bits 7 4 (byte d 1)) *ℤ step_at d k

-- every product is small: one test over the table
pub small_product : (m row j : ℕ) → m < 16 → row < 16 → mag (get_or (products_of_lem m row) j (pos 0)) < 256
small_product m row j h g =
    let t = below (λ n. every (λ r. small 256 (products_of_lem n r)) 16) 16 tt m h in
    small_at 256 (products_of_lem m row) (lit< tt) (below (λ r. small 256 (products_of_lem m r)) 16 t row g) j

-- of the block's own products the pick is multiplier times step
pub move_picked : (d : List ℕ) (k : ℕ) → pick_at d (products_in d) k ≡ move_at d k
unfolding pick_at alpha_step
move_picked d k =
    get_or_build (λ i. pos (bits 7 4 (byte d 1)) *ℤ get_or (get_or alpha_steps_lem (bits 3 0 (byte d 1)) []) i (pos 0)) (pos 0) 8
    (alpha_index d (4 * (k % 4) + k / 4)) (omega arith)

-- the eight alphas are bytes
pub small_alpha : (base b : ℕ) (eight : List ℤ) (j : ℕ) → eight ≡ eight_alphas_lem base b → j < 8 → mag (get_or eight j (pos 0)) < 2048
small_alpha base b eight j e h =
    let row = products_of_lem (bits 7 4 b) (bits 3 0 b) in
    rw (e, get_or_build (λ j. pos (clamp 255 (pos base +ℤ get_or row j (pos 0)))) (pos 0) 8 j h) (omega (arith, clamp_le 255 (pos base +ℤ get_or row j (pos 0))))

-- of them the pixel at place k picks its alpha
pub alpha_picked : (d : List ℕ) (eight : List ℤ) (k : ℕ) → eight ≡ eight_alphas_lem (byte d 0) (byte d 1) → pick_at d eight k ≡ pos (alpha_byte d (k % 4) (k / 4))
unfolding pick_at alpha_byte
alpha_picked d eight k e =
    ap (λ (l : List ℤ). get_or l (alpha_index d (4 * (k % 4) + k / 4)) (pos 0)) e
    ∙ get_or_build (λ j. pos (clamp 255 (pos (byte d 0) +ℤ get_or (products_in d) j (pos 0)))) (pos 0) 8 (alpha_index d (4 * (k % 4) + k / 4)) (omega arith)
    ∙ ap (λ (z : ℤ). pos (clamp 255 (pos (byte d 0) +ℤ z))) (move_picked d k)

pub small_byte : (d : List ℕ) (x y : ℕ) → alpha_byte d x y < 256
unfolding alpha_byte
small_byte d x y = omega (arith, clamp_le 255 (pos (byte d 0) +ℤ pos (bits 7 4 (byte d 1)) *ℤ alpha_step d x y))

-- a byte as the machine holds it
pub held_pos : (z : ℤ) (n : ℕ) → z ≡ pos n → n < 256 → held w16 z ≡ pos n
held_pos z n e h = ap (held w16) e ∙ held_small w16 (pos n) (omega arith)

-- what a turn reads of the picked alphas
pub alpha_held : (d : List ℕ) (eight l : List ℤ) (k : ℕ) → eight ≡ eight_alphas_lem (byte d 0) (byte d 1) → l ≡ build 16 (pick_at d eight) → k < 16
    → held w16 (get_or l k (pos 0)) ≡ pos (alpha_byte d (k % 4) (k / 4))
alpha_held d eight l k e f h =
    held_pos (get_or l k (pos 0)) (alpha_byte d (k % 4) (k / 4))
    (ap (λ (l : List ℤ). get_or l k (pos 0)) f ∙ get_or_build (pick_at d eight) (pos 0) 16 k h ∙ alpha_picked d eight k e)
    (small_byte d (k % 4) (k / 4))
