-- `read` meets its contract: after k turns the first k octets stand at the front.
use Rattle.std.proofs.Common.{ℕ, zero, suc, ◌+◌, ◌%◌, ◌<◌, ◌≡◌, refl, sym, ap, ◌∙◌, List, [], ◌∷◌, ◌++◌, Bool, Option, Some}
use Rattle.std.proofs.Common.{None, unwrap_or, zero-add, add-one, arith, length, drop, get_or, length-append}
use lib.ListN.{set}
use lib.Seq.{drop-cons, set_at, append_snoc}
use Rattle.octets.specs.Patch.{patch}
use Rattle.replay_hexes.specs.Hexes.{octet_at, place_of, octets_read}
use Rattle.replay_hexes.proofs.read.Goals as goal

read_length : (t : Bool) (s : List ℕ) (k : ℕ) → length (octets_read t s k) ≡ k
unfolding octets_read
read_length t s zero = refl
read_length t s (suc k) = simp length-append (omega (arith, read_length t s k))

front : (l d : List ℕ) → patch 0 l d ≡ l ++ drop (length l) d
unfolding patch
front l d = ap (λ (n : ℕ). l ++ drop n d) (zero-add (length l))

-- one more octet at the front
one_more : (l d : List ℕ) (k v : ℕ) → length l ≡ k → k < length d → set (patch 0 l d) k v ≡ patch 0 (l ++ (v ∷ [])) d
one_more l d k v n h =
    ap (λ (a : List ℕ). set a k v) (front l d ∙ ap (λ (m : ℕ). l ++ drop m d) n ∙ ap (λ (a : List ℕ). l ++ a) (drop-cons d k 0 h))
    ∙ set_at l (get_or d k 0) (drop (suc k) d) v k n
    ∙ sym (front (l ++ (v ∷ [])) d ∙ ap (λ (m : ℕ). (l ++ (v ∷ [])) ++ drop m d) more ∙ append_snoc l v (drop (suc k) d))
  where
    more : length (l ++ (v ∷ [])) ≡ suc k
    more = simp length-append (omega (arith, n))

next_read : (t : Bool) (s : List ℕ) (k at : ℕ) → at ≡ place_of t k
    → octets_read t s k ++ (octet_at at s % 256 ∷ []) ≡ octets_read t s (k + 1)
unfolding octets_read
next_read t s k at e = rw (add-one, e)

turn : (t : Bool) (s d₀ d : List ℕ) (k at octet : ℕ) → d ≡ patch 0 (octets_read t s k) d₀ → k < length d₀ → at ≡ place_of t k
    → octet ≡ octet_at at s % 256 → set d k octet ≡ patch 0 (octets_read t s (k + 1)) d₀
turn t s d₀ d k at octet e h p o =
    ap (λ (a : List ℕ). set a k octet) e
    ∙ one_more (octets_read t s k) d₀ k octet (read_length t s k) h
    ∙ ap (λ (n : ℕ). patch 0 (octets_read t s k ++ (n ∷ [])) d₀) o
    ∙ ap (λ (l : List ℕ). patch 0 l d₀) (next_read t s k at p)

-- an octet that is there, or 0
stored : (r : Option ℕ) (octet at : ℕ) → octet ≡ unwrap_or r 0 → octet < 256 → unwrap_or r 256 ≡ at → octet ≡ at % 256
stored None octet at v h e = rw (← e) v
stored (Some x) octet at v h e = rw (← e, v) (omega (arith, h, v))

pub loop-k-preserved : goal.loop-k-preserved
loop-k-preserved c =
    turn c.args.parted c.args.s.now c.args.dst.now c.loop-k.dst c.loop-k.k c.place.result c.unwrap_or.result
    c.loop-k.invariant (omega arith) c.place.ensures
    (stored c.octet_at.result _ _ c.unwrap_or.ensures c.unwrap_or.type_inv c.octet_at.ensures)
