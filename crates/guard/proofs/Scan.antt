-- A scan for a block that must not be shown: what holds before each turn, and what its end comes to, over the test of a block's number;
-- then what a viewer says, as the code asks.
-- Assumes nothing.
use mathlib.Core.Path.{◌≡◌, ◌∙◌, refl, sym, ap}
use mathlib.Core.Bool.{Bool, true, false, cond, true≢false}
use mathlib.Core.List.{List, [], ◌∷◌}
use Prim.Native.Nat.{ℕ, ◌+◌, ◌-◌, ◌*◌, ◌<◌, ◌≤◌}
use native.Mathlib.Omega.{arith}
use native.Mathlib.Nat.{zero-add}
use borrow.Author.Count.{below_none, below_more}
use borrow.Author.Tests.{lt-ltb, le-ltb}
use lib.Dec.{ltb}
use lib.ListN.{get_or, take, drop}
use Rattle.rules.specs.Places.{bytes_of}
use Rattle.rules.specs.Answers.{said, accepts, first_of, guarded}
use Rattle.rules.specs.Guards.{Guard}
use Rattle.rules.specs.Answers.{Answer}
use Rattle.rules.specs.Formats.{size_of}
use Rattle.laws.proofs.First.{first, only}
use Rattle.laws.proofs.Guards.{Sound, strict_sound, opaque_sound}
use Rattle.laws.proofs.Parts.{part}
use Rattle.guard.specs.Viewers.{guard_of, first_in, scanned_from}
use Rattle.guard.specs.declared.Viewer.{Viewer}
use Rattle.guard.specs.declared.Viewer.TheVariants.{Etc1, Opaque}

module _ (test : ℕ → Bool) (n : ℕ) where
  -- what holds before turn b of a scan of n blocks
  abbrev pub Scanned : ℕ → Type 0
  Scanned b = (b ≤ n) × ((k : ℕ) → k < b → test k ≡ false)

  pub begin : Scanned 0
  begin = (omega arith, below_none _)

  pub goes_on : (b : ℕ) → Scanned b → b < n → test b ≡ false → Scanned (b + 1)
  goes_on b s h t = (omega arith, below_more _ b s.1 t)

  -- the scan stops at a block, which is the first; or it comes to the end
  pub found : (b : ℕ) → Scanned b → test b ≡ true → b ≡ first_of test n
  found b s t = only test n b (first_of test n) (record { within = s.0; found = λ q. t; none = s.1 }) (first test n)

  pub ended : (b : ℕ) → Scanned b → n ≤ b → n ≡ first_of test n
  ended b s h =
      only test n n (first_of test n)
      (record { within = omega arith; found = λ q. absurd (omega arith); none = λ k q. s.1 k (omega arith) })
      (first test n)

-- every viewer's blocks have eight bytes, and its guard owes what a guard does
pub eight : (viewer : Viewer) → size_of (guard_of viewer).own ≡ 8
unfolding size_of
eight Etc1 = refl
eight Opaque = refl

pub sound : (viewer : Viewer) → Sound (guard_of viewer)
sound Etc1 = strict_sound
sound Opaque = opaque_sound

-- what is said of one block, by a refusal's number: the refusal, or that it goes on
module _ (number : ℕ) (is_refusal : 0 < number) (a : Answer) (t : Bool) (i : ℕ) where
  pub refused : said a ≡ cond t (number ∷ i ∷ []) (0 ∷ []) → accepts (said a) ≡ false → (t ≡ true) × (said a ≡ number ∷ i ∷ [])
  refused e h = decide t refl
    where
      decide : (b : Bool) → t ≡ b → (t ≡ true) × (said a ≡ number ∷ i ∷ [])
      decide true q = (q, e ∙ ap (λ (b : Bool). cond b (number ∷ i ∷ []) (0 ∷ [])) q)
      decide false q = absurd (true≢false (sym (ap accepts (e ∙ ap (λ (b : Bool). cond b (number ∷ i ∷ []) (0 ∷ [])) q)) ∙ h))

  pub passed : said a ≡ cond t (number ∷ i ∷ []) (0 ∷ []) → said a ≡ 0 ∷ [] → t ≡ false
  passed e h = decide t refl
    where
      decide : (b : Bool) → t ≡ b → t ≡ false
      decide false q = q
      decide true q = absurd (clash (ap (λ (l : List ℕ). get_or l 0 0) (sym (e ∙ ap (λ (b : Bool). cond b (number ∷ i ∷ []) (0 ∷ [])) q) ∙ h)))
        where
          clash : number ≡ 0 → ⊥
          clash z = omega (arith, z)

-- what a scan from a number on comes to
module _ (viewer : Viewer) (d : List ℕ) (from n b : ℕ) where
  abbrev pub Clear : Type 0
  Clear = Scanned (λ i. (guard_of viewer).bad (bytes_of 8 d i)) n b

  -- the test of a block that was cut out of the bytes
  same : (guard_of viewer).bad (take (b * 8 + 8 - b * 8) (drop (b * 8) d)) ≡ (guard_of viewer).bad (bytes_of 8 d b)
  same = ap (guard_of viewer).bad (part 8 b d)

  pub stops : (a : Answer) → Clear → b < n
      → said a ≡ cond ((guard_of viewer).bad (take (b * 8 + 8 - b * 8) (drop (b * 8) d))) ((guard_of viewer).number ∷ (from + b) ∷ []) (0 ∷ [])
      → accepts (said a) ≡ false
      → said a ≡ scanned_from (guard_of viewer) from n d
  stops a s h e r =
      let w = refused (guard_of viewer).number (sound viewer).is_refusal a _ (from + b) e r in
      let f = found _ n b s (sym same ∙ w.0) in
      w.1 ∙ ap (λ (z : ℕ). (guard_of viewer).number ∷ (from + z) ∷ []) f ∙ sym (rw (lt-ltb (first_in (guard_of viewer) n d) n (omega (arith, f))))

  pub goes : (a : Answer) → Clear → b < n
      → said a ≡ cond ((guard_of viewer).bad (take (b * 8 + 8 - b * 8) (drop (b * 8) d))) ((guard_of viewer).number ∷ (from + b) ∷ []) (0 ∷ [])
      → said a ≡ 0 ∷ []
      → Scanned (λ i. (guard_of viewer).bad (bytes_of 8 d i)) n (b + 1)
  goes a s h e r = goes_on _ n b s h (sym same ∙ passed (guard_of viewer).number (sound viewer).is_refusal a _ (from + b) e r)

  pub ends : Clear → n ≤ b → 0 ∷ [] ≡ scanned_from (guard_of viewer) from n d
  ends s h = let f = ended _ n b s h in sym (rw (le-ltb (first_in (guard_of viewer) n d) n (omega (arith, f))))

-- from number 0 on it is what a guard says of a picture's blocks
pub from_first : (g : Guard) (n : ℕ) (d : List ℕ) → scanned_from g 0 n d ≡ guarded g.number (λ i. g.bad (bytes_of 8 d i)) n
from_first g n d = ap (λ (z : ℕ). cond (ltb (first_in g n d) n) (g.number ∷ z ∷ []) (0 ∷ [])) (zero-add (first_in g n d))
