-- A fresh connection over the whole saved area: the records behind the gathering are begun, and its mark is set to none.
use Prim.Native.Nat.{ℕ, suc, ◌+◌, ◌*◌, ◌-◌, ◌≤◌, ◌<◌}
use native.Mathlib.Omega.{arith}
use mathlib.Core.Path.{◌≡◌, refl, sym, ap, ap₂, ◌∙◌}
use mathlib.Core.List.{List, [], ◌∷◌, ◌++◌}
use mathlib.Core.Option.{none}
use lib.ListN.{length, take, drop, set}
use borrow.Author.Tests.{ne_eqb, lt-ltb, le-ltb}
use borrow.Rule.Slice.PartMut.{put_mid}
use Rattle.rules.specs.Book.{Book, book_number, book_of}
use Rattle.rules.specs.Endpoints.{fresh_ends, fresh_connection}
use Rattle.rules.specs.Saved.{records_place, record_room, area_for, link_of, records_of, store_ends, store_gathering, store}
use Rattle.rules.specs.Host.{number_or, fresh_call}
use Rattle.rules.specs.Refusals.{number_of}
use Rattle.rules.specs.declared.refusals.Refusal.{Refusal}
use Rattle.rules.proofs.Refusing.{never_0}
use Rattle.rules.proofs.RightBook.{right_book}
use Rattle.rules.proofs.SavedReads.{records_room}
use Rattle.rules.specs.Calls.{Freshens}
use Rattle.octets.proofs.Tails.{behind_whole}
use Rattle.bridge_link.proofs.RecordsBack.{counted_back}
use Rattle.bridge_refusals.proofs.Refusing.{book_refused}

-- one endpoint an entry
fresh_length : (book : Book) → length (fresh_ends book) ≡ length book
unfolding fresh_ends
fresh_length [] = refl
fresh_length (n ∷ book) = ap suc (fresh_length book)

module _ (book saved : List ℕ) where
  pub fresh_refused : (refusal : Refusal) → number_of refusal ≡ book_number book → Freshens book saved (number_of refusal) saved
  unfolding fresh_call
  fresh_refused refusal e = rw (← (book_refused book refusal _ e), ne_eqb (number_of refusal) 0 (never_0 refusal))

  module _ (right : book_number book ≡ 0) (b : List ℕ) (same : b ≡ book) (n : ℕ) (counted : n ≡ length (book_of b)) where
    pub few : n ≤ 16
    few = let right' = right_book book right in rw (counted, same) right'.few

    all : n ≡ length (book_of book)
    all = counted ∙ ap (λ (x : List ℕ). length (book_of x)) same

    pub short_fresh : length saved < records_place + n * record_room → Freshens book saved 12 saved
    unfolding fresh_call number_or area_for
    short_fresh h = rw (right, lt-ltb (length saved) (area_for (length (book_of book))) (let all = all in omega arith))

    module _ (long : records_place + n * record_room ≤ length saved) where
      area : area_for (length (book_of book)) ≤ length saved
      unfolding area_for
      area = let all = all in omega arith

      pub lent_room : length (book_of b) * record_room ≤ length (take (length saved - records_place) (drop records_place saved))
      unfolding records_of
      lent_room = rw (same, behind_whole records_place saved) (records_room (length (book_of book)) saved area)

      pub freshened : (m : List ℕ)
          → m ≡ store_ends (fresh_connection (book_of b)).ends (take (length saved - records_place) (drop records_place saved))
          → Freshens book saved 0 (set (set (put_mid records_place (length saved - records_place) saved m) 0 n) 1 0)
      unfolding fresh_call number_or store fresh_connection records_of
      freshened m t =
          ap (λ (x : List ℕ). record { number = 0; saved = x })
          (counted_back saved m (omega arith) n
          ∙ ap₂ (λ (k : ℕ) (x : List ℕ). k ∷ (store_gathering none (link_of saved) ++ x))
          (all ∙ sym (fresh_length (book_of book)))
          (t ∙ ap₂ (λ (x r : List ℕ). store_ends (fresh_connection (book_of x)).ends r) same (behind_whole records_place saved)))
          ∙ sym (rw (right, le-ltb (length saved) (area_for (length (book_of book))) area))
