-- Formats and their numbers: each is the other's.
-- Assumes nothing.
use mathlib.Core.Path.{◌≡◌, ◌∙◌, refl, sym, ap}
use Prim.Native.Nat.{ℕ, zero, suc, ◌≤◌, ◌<◌}
use native.Mathlib.Omega.{arith}
use Rattle.std.specs.Prelude.{Result, Ok, Err}
use Rattle.std.specs.Result.{MatchResult, result_unwrap_or}
use Rattle.rules.specs.declared.Refusal.{Refusal}
use Rattle.rules.specs.declared.Refusal.TheVariants.{UnknownFormat}
use Rattle.rules.specs.FileFormats.{format_number, format_at_lem}
use Rattle.rules.specs.Sheets.{format_of}
use Rattle.rules.specs.declared.Format.{Format}
use Rattle.rules.specs.declared.Format.TheVariants.{Etc1, Etc2Rgb, Etc2Rgba1, Etc2Rgba8, EacR, EacRSigned, EacRg, EacRgSigned}
use Rattle.rules.specs.declared.Format.TheVariants.{Bc1, Bc1Alpha, Bc3, Bc7, Bc2, Bc4, Bc4Signed, Bc5, Bc5Signed}

-- each format is that of its number
pub of_number : (f : Format) → format_at_lem (format_number f) ≡ f
unfolding format_at_lem
of_number Etc1 = refl
of_number Etc2Rgb = refl
of_number Etc2Rgba1 = refl
of_number Etc2Rgba8 = refl
of_number EacR = refl
of_number EacRSigned = refl
of_number EacRg = refl
of_number EacRgSigned = refl
of_number Bc1 = refl
of_number Bc1Alpha = refl
of_number Bc3 = refl
of_number Bc7 = refl
of_number Bc2 = refl
of_number Bc4 = refl
of_number Bc4Signed = refl
of_number Bc5 = refl
of_number Bc5Signed = refl

-- of sheets, whose formats are the first eight
pub numbered : (n : ℕ) → n < 8 → format_number (format_of n) ≡ n
unfolding format_of
numbered zero h = refl
numbered (suc zero) h = refl
numbered (suc (suc zero)) h = refl
numbered (suc (suc (suc zero))) h = refl
numbered (suc (suc (suc (suc zero)))) h = refl
numbered (suc (suc (suc (suc (suc zero))))) h = refl
numbered (suc (suc (suc (suc (suc (suc zero)))))) h = refl
numbered (suc (suc (suc (suc (suc (suc (suc zero))))))) h = refl
numbered (suc (suc (suc (suc (suc (suc (suc (suc n)))))))) h = absurd (omega arith)

pub formatted : (f : Format) → format_number f < 8 → format_of (format_number f) ≡ f
unfolding format_of
formatted Etc1 h = refl
formatted Etc2Rgb h = refl
formatted Etc2Rgba1 h = refl
formatted Etc2Rgba8 h = refl
formatted EacR h = refl
formatted EacRSigned h = refl
formatted EacRg h = refl
formatted EacRgSigned h = refl
formatted Bc1 h = absurd (omega arith)
formatted Bc1Alpha h = absurd (omega arith)
formatted Bc3 h = absurd (omega arith)
formatted Bc7 h = absurd (omega arith)
formatted Bc2 h = absurd (omega arith)
formatted Bc4 h = absurd (omega arith)
formatted Bc4Signed h = absurd (omega arith)
formatted Bc5 h = absurd (omega arith)
formatted Bc5Signed h = absurd (omega arith)

-- no format has a number from 17 on
none : (n : ℕ) → 17 ≤ n → format_at_lem n ≡ Etc1
unfolding format_at_lem
none zero h = absurd (omega arith)
none (suc zero) h = absurd (omega arith)
none (suc (suc zero)) h = absurd (omega arith)
none (suc (suc (suc zero))) h = absurd (omega arith)
none (suc (suc (suc (suc zero)))) h = absurd (omega arith)
none (suc (suc (suc (suc (suc zero))))) h = absurd (omega arith)
none (suc (suc (suc (suc (suc (suc zero)))))) h = absurd (omega arith)
none (suc (suc (suc (suc (suc (suc (suc zero))))))) h = absurd (omega arith)
none (suc (suc (suc (suc (suc (suc (suc (suc zero)))))))) h = absurd (omega arith)
none (suc (suc (suc (suc (suc (suc (suc (suc (suc zero))))))))) h = absurd (omega arith)
none (suc (suc (suc (suc (suc (suc (suc (suc (suc (suc zero)))))))))) h = absurd (omega arith)
none (suc (suc (suc (suc (suc (suc (suc (suc (suc (suc (suc zero))))))))))) h = absurd (omega arith)
none (suc (suc (suc (suc (suc (suc (suc (suc (suc (suc (suc (suc zero)))))))))))) h = absurd (omega arith)
none (suc (suc (suc (suc (suc (suc (suc (suc (suc (suc (suc (suc (suc zero))))))))))))) h = absurd (omega arith)
none (suc (suc (suc (suc (suc (suc (suc (suc (suc (suc (suc (suc (suc (suc zero)))))))))))))) h = absurd (omega arith)
none (suc (suc (suc (suc (suc (suc (suc (suc (suc (suc (suc (suc (suc (suc (suc zero))))))))))))))) h = absurd (omega arith)
none (suc (suc (suc (suc (suc (suc (suc (suc (suc (suc (suc (suc (suc (suc (suc (suc zero)))))))))))))))) h = absurd (omega arith)
none (suc (suc (suc (suc (suc (suc (suc (suc (suc (suc (suc (suc (suc (suc (suc (suc (suc n))))))))))))))))) h = refl

-- what reads a number as a format reads it as the rules do
pub by_any_number : (n : ℕ) (r : Result Format Refusal)
    → MatchResult r (λ f. format_number f ≡ n) (λ e. (e ≡ UnknownFormat) × (17 ≤ n))
    → result_unwrap_or r Etc1 ≡ format_at_lem n
by_any_number n (Ok f) e = sym (of_number f) ∙ ap format_at_lem e
by_any_number n (Err a) e = sym (none n e.1)

pub by_number : (n : ℕ) (r : Result Format Refusal)
    → n < 8
    → MatchResult r (λ f. format_number f ≡ n) (λ e. (e ≡ UnknownFormat) × (17 ≤ n))
    → result_unwrap_or r Etc1 ≡ format_of n
by_number n (Ok f) h e = sym (formatted f (omega (arith, e))) ∙ ap format_of e
by_number n (Err a) h e = absurd (omega (arith, e.1))
