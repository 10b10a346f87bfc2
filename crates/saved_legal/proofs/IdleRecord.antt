-- A record with the head of an idle endpoint: it is compared by halves, and it is legal, as storing that endpoint leaves it.
use Rattle.std.proofs.Common.{ℕ, arith, ◌≡◌, refl, sym, ap, ◌∙◌, List, [], ◌∷◌, ◌++◌, Bool, true, ◌&&◌, length, get_or, take}
use Rattle.std.proofs.Common.{drop, replicate, length-take-le, take-add, eqb, eq-eqb}
use mathlib.Core.Bool.{and_assoc}
use Rattle.rules.specs.Octets.{same_octets, front}
use Rattle.rules.specs.Book.{Entry}
use Rattle.rules.specs.Endpoints.{idle_head, idle, is_awaited}
use Rattle.rules.specs.Saved.{record_room, head_room, unused, used_octets, head_octets, store_end}
use Rattle.rules.specs.declared.OurSeid.{OurSeid}
use Rattle.rules.proofs.Tests.{same_octets_lem}
use Rattle.rules.proofs.LegalMoves.{idle_legal}
use Rattle.rules.proofs.SavedReads.{front_same, end_right, end_back}
use Rattle.octets.specs.Patch.{part}
use Rattle.saved_legal.specs.Legal.{awaits_in, idles_in, record_legal}

-- ---- By halves

same_joined : (a b c d : List ℕ) → length a ≡ length c → same_octets (a ++ b) (c ++ d) ≡ same_octets a c && same_octets b d
unfolding same_octets
same_joined [] b [] d e = refl
same_joined [] b (y ∷ c) d e = absurd (omega arith)
same_joined (x ∷ a) b [] d e = absurd (omega arith)
same_joined (x ∷ a) b (y ∷ c) d e =
    ap (λ (t : Bool). eqb x y && t) (same_joined a b c d (omega arith))
    ∙ sym (and_assoc (eqb x y) (same_octets a c) (same_octets b d))

pub by_halves : (s : OurSeid) (r : List ℕ) → length r ≡ record_room
    → idles_in s r ≡ same_octets (part 0 8 r) (s.0 ∷ replicate 7 0) && same_octets (part 8 8 r) unused
unfolding idles_in part head_octets
by_halves s r long =
    ap (λ (l : List ℕ). same_octets l (head_octets (idle_head s) 0)) (take-add 8 8 r)
    ∙ same_joined (take 8 r) (take 8 (drop 8 r)) (used_octets (idle_head s) 0) unused (length-take-le 8 r (omega arith))

-- ---- Legal

idle_stored : (s : OurSeid) (r : List ℕ) → length r ≡ record_room → idles_in s r ≡ true → store_end (idle s) r ≡ r
unfolding idles_in store_end idle head_octets
idle_stored s r long t =
    let head = head_octets (idle_head s) 0 in
    front_same head r head_room (sym (same_octets_lem (take head_room r) head t)) (omega arith)

pub idles_legal : (n : Entry) (r : List ℕ) → length r ≡ record_room → idles_in n.seid r ≡ true → true ≡ record_legal n r
unfolding record_legal idle
idles_legal n r long t =
    let s = n.seid in
    sym (ap (record_legal n) (sym (idle_stored s r long t))
    ∙ rw (end_right (idle s) r refl, end_back (idle s) r) (idle_legal n s (eq-eqb s.0 s.0 refl)))

pub idles_awaits : (s : OurSeid) (r : List ℕ) → length r ≡ record_room → idles_in s r ≡ true → awaits_in (get_or r 2 0) ≡ 0
unfolding awaits_in is_awaited store_end idle head_octets front
idles_awaits s r long t = ap (λ (l : List ℕ). awaits_in (get_or l 2 0)) (sym (idle_stored s r long t))

-- all that is asked of a record that idles
pub ruleset idle_record = (idles_legal, idles_awaits)
