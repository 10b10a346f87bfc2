-- Of two stores one over the other the later counts, where every endpoint keeps its configuration: what is written of a record
-- then reaches as far as what was written of it before.
use Rattle.std.proofs.Common.{◌≡◌, ℕ, zero, suc, true, leb, List, [], ◌∷◌, ◌++◌, length, take, drop, set, refl, ap, ◌∙◌, ap₂}
use Rattle.std.proofs.Common.{arith, take_at, drop_at, leb-true}
use Rattle.rules.specs.Octets.{each_of, front}
use Rattle.rules.specs.Endpoints.{Endpoint, Ends, end_at}
use Rattle.rules.specs.Saved.{record_room, head_octets, store_end, store_ends}
use Rattle.rules.proofs.Tests.{and_l, and_r, and_both}
use Rattle.rules.proofs.SavedReads.{short_configs, Fits, end_length, first_room, rest_room}

-- one endpoint for each, with the same configuration
pub data Kept : Ends → Ends → Type 0 where
  none : Kept [] []
  more : {a b : Endpoint} {xs ys : Ends} → a.config ≡ b.config → Kept xs ys → Kept (a ∷ xs) (b ∷ ys)

pub kept_same : (ends : Ends) → Kept ends ends
kept_same [] = none
kept_same (e ∷ ends) = more refl (kept_same ends)

pub kept_set : (ends : Ends) (i : ℕ) (e : Endpoint) → e.config ≡ (end_at ends i).config → Kept (set ends i e) ends
unfolding end_at
kept_set [] i e h = none
kept_set (x ∷ ends) zero e h = more h (kept_same ends)
kept_set (x ∷ ends) (suc i) e h = more refl (kept_set ends i e h)

pub kept_length : {xs ys : Ends} → Kept xs ys → length xs ≡ length ys
kept_length none = refl
kept_length (more e k) = ap suc (kept_length k)

pub kept_short : {xs ys : Ends} → Kept xs ys → short_configs ys ≡ true → short_configs xs ≡ true
unfolding each_of
kept_short none h = refl
kept_short (more {a} {b} {xs} {ys} e k) h =
    and_both (leb (length a.config) 64) (short_configs xs)
    (ap (λ (c : List ℕ). leb (length c) 64) e ∙ and_l (leb (length b.config) 64) (short_configs ys) h)
    (kept_short k (and_r (leb (length b.config) 64) (short_configs ys) h))

front_over : (s t r : List ℕ) → length t ≡ length s → front s (front t r) ≡ front s r
unfolding front
front_over s t r e =
    ap (λ (x : List ℕ). s ++ x) (drop_at t (drop (length t) r) (length s) e ∙ ap (λ (k : ℕ). drop k r) e)

end_over : (a b : Endpoint) (r : List ℕ) → a.config ≡ b.config → store_end a (store_end b r) ≡ store_end a r
unfolding store_end head_octets
end_over a b r e =
    let same : length a.config ≡ length b.config = ap length e in
    front_over (head_octets a.head (length a.config) ++ a.config)
    (head_octets b.head (length b.config) ++ b.config) r (omega arith)

pub store_over : {xs ys : Ends} → Kept xs ys → (l : List ℕ) → Fits ys l → store_ends xs (store_ends ys l) ≡ store_ends xs l
unfolding store_ends each_of
store_over none l fits = refl
store_over (more {a} {b} {xs} {ys} e k) l fits =
    let first = store_end b (take record_room l) in
    let rest = store_ends ys (drop record_room l) in
    let short = and_l (leb (length b.config) 64) (short_configs ys) fits.short in
    let size =
    end_length b (take record_room l) (leb-true (length b.config) 64 short) (first_room (length ys) l fits.room) in
    ap₂ (λ (x y : List ℕ). store_end a x ++ store_ends xs y)
    (take_at first rest record_room size) (drop_at first rest record_room size)
    ∙ ap₂ ◌++◌ (end_over a b (take record_room l) e)
    (store_over k (drop record_room l)
    (record {
      short = and_r (leb (length b.config) 64) (short_configs ys) fits.short;
      room = rest_room (length ys) l fits.room;
    }))
