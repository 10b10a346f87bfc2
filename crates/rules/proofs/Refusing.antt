-- Refusals by name, where they are passed on: the number stays, and it is not 0.
use Rattle.std.proofs.Common.{ℕ, ◌≡◌, refl, ap, ◌∙◌, arith}
use Rattle.std.specs.Prelude.{IsErrAnd}
use Rattle.std.specs.declared.result.Result.{Result}
use Rattle.std.proofs.lemmas.Result.{err_from_is_err_and}
use Rattle.rules.specs.Refusals.{number_of, number_told}
use Rattle.rules.specs.Host.{number_or}
use Rattle.rules.specs.declared.refusals.Refusal.{Refusal}
use Rattle.rules.specs.declared.refusals.Refusal.TheVariants.{BookLength, BookMark, BookVersion, BookCount, BookSeid, BookKind}
use Rattle.rules.specs.declared.refusals.Refusal.TheVariants.{BookList, PacketSize, Area, NotApplicable, Message, Saved, Burst}

pub never_0 : (refusal : Refusal) → number_of refusal ≡ 0 → ⊥
never_0 BookLength e = omega arith
never_0 BookMark e = omega arith
never_0 BookVersion e = omega arith
never_0 BookCount e = omega arith
never_0 BookSeid e = omega arith
never_0 BookKind e = omega arith
never_0 BookList e = omega arith
never_0 PacketSize e = omega arith
never_0 Area e = omega arith
never_0 NotApplicable e = omega arith
never_0 Message e = omega arith
never_0 Saved e = omega arith
never_0 Burst e = omega arith

-- a refusal goes before what is tested after it
pub refused_first : (refusal : Refusal) (next : ℕ) → number_or (number_of refusal) next ≡ number_of refusal
unfolding number_or
refused_first BookLength next = refl
refused_first BookMark next = refl
refused_first BookVersion next = refl
refused_first BookCount next = refl
refused_first BookSeid next = refl
refused_first BookKind next = refl
refused_first BookList next = refl
refused_first PacketSize next = refl
refused_first Area next = refl
refused_first NotApplicable next = refl
refused_first Message next = refl
refused_first Saved next = refl
refused_first Burst next = refl

-- what `?` hands on
pub handed_on : {A : Type 0} (r : Result A Refusal) (refusal : Refusal) → IsErrAnd r (λ e. e ≡ refusal)
    → number_told r ≡ number_of refusal
handed_on r refusal h =
    let told = err_from_is_err_and r h in
    ap (λ x. number_told x) told.1 ∙ ap (λ x. number_of x) told.2
