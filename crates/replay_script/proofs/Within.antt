-- Where something is found in a list, or its end.
use Rattle.std.proofs.Common.{ℕ, ◌≡◌, ◌≤◌, ◌∙◌, ap, sym, List, length, Bool, not, cond, Some, None, unwrap_or, position, arith}
use Rattle.std.proofs.Common.{ltb, reverse}
use Rattle.std.specs.List.{position_or_len}
use Rattle.std.proofs.lemmas.List.Sums.{prefix_len-le-length}
use Rattle.std.proofs.lemmas.List.{length-reverse}

or_end : (n l : ℕ) → n ≤ l → unwrap_or (cond (ltb n l) (Some n) None) l ≡ n
or_end n l h = grind arith

pub found_or_end : (p : ℕ → Bool) (s : List ℕ) → unwrap_or (position p s) (length s) ≡ position_or_len p s
found_or_end p s = or_end (position_or_len p s) (length s) (prefix_len-le-length (λ x. not (p x)) s)

pub found_from_end : (p : ℕ → Bool) (s : List ℕ) → unwrap_or (position p (reverse s)) (length s) ≡ position_or_len p (reverse s)
found_from_end p s = ap (λ (n : ℕ). unwrap_or (position p (reverse s)) n) (sym (length-reverse s)) ∙ found_or_end p (reverse s)
