-- `shift` meets its contract: after each SEID the records show what the definition has reached, and nothing is replied yet.
use Rattle.std.proofs.Common.{ℕ, ◌*◌, ◌/◌, ◌<◌, ◌≡◌, List, length, get_or, Err, sym, refl, ap, ◌∙◌, subst, arith}
use Rattle.std.proofs.Common.{length-take, length-drop}
use Rattle.rules.specs.Octets.{front}
use Rattle.rules.specs.Commands.{rejects, our_in}
use Rattle.rules.specs.Host.{payload_of}
use Rattle.rules.specs.declared.Signal.{Signal}
use Rattle.octets.proofs.Tails.{behind_whole}
use Rattle.commands_reply.specs.Answers.{said_of}
use Rattle.commands_reply.specs.declared.Said.{Said}
use Rattle.commands_checks.specs.Met.{Met, met_of}
use Rattle.commands_shift.proofs.Shifting.{none_listed, reached_first, shifted_all, stopped, record_there}
use Rattle.commands_shift.proofs.Shifting.{reached_next}
use Rattle.commands_shift.proofs.shift.Goals as goal

-- ---- The octets that are walked are those of the payload, also where it is lent as a part of itself

inside : {p q : List ℕ} {i : ℕ} → q ≡ p → i < length q → i < length p
inside {i = i} all h = subst (λ x. i < length x) all h

met_there : (signal : Signal) (book l : List ℕ) {p q : List ℕ} (i : ℕ) {m : Met} → q ≡ p
    → met_of signal book l (our_in (get_or q i 0)) ≡ m → met_of signal book l (our_in (get_or p i 0)) ≡ m
met_there signal book l i all h = ap (λ x. met_of signal book l (our_in (get_or x i 0))) (sym all) ∙ h

refused_there : (signal : Signal) (code i : ℕ) {q : List ℕ} (p area : List ℕ) → q ≡ p → {said : Said} {area' : List ℕ}
    → (said ≡ said_of (rejects signal (get_or q i 0 / 4 * 4) code))
    × (area' ≡ front (payload_of (rejects signal (get_or q i 0 / 4 * 4) code)) area)
    → (said ≡ said_of (rejects signal (get_or p i 0 / 4 * 4) code))
    × (area' ≡ front (payload_of (rejects signal (get_or p i 0 / 4 * 4) code)) area)
refused_there signal code i p area all {said} {area'} h =
    subst
    (λ x.
    (said ≡ said_of (rejects signal (get_or x i 0 / 4 * 4) code))
    × (area' ≡ front (payload_of (rejects signal (get_or x i 0 / 4 * 4) code)) area))
    all h

-- ---- The goals

pub returns-then-not-length_right : goal.returns-then-not-length_right
returns-then-not-length_right c =
    none_listed c.args.signal c.args.to c.requires (sym c.length_right.ensures ∙ c.if-not-length_right.true)
    (c.refused.ensures.said, c.refused.ensures.reply)

pub loop-octet-init : goal.loop-octet-init
loop-octet-init c =
    record { silent = refl; reached = reached_first c.args.signal c.args.to _ _ _ c.requires.held }

pub returns-in-Err : goal.returns-in-Err
unfolding our_in
returns-in-Err c =
    let all = behind_whole 0 c.args.payload.now in
    let i = c.loop-octet.octet-index in
    let told =
    refused_there c.args.signal c.from.result i c.args.payload.now c.loop-octet.reply (cc)
    (c.refused-in-Err.ensures.said, c.refused-in-Err.ensures.reply) in
    stopped c.args.signal c.args.to c.loop-octet.invariant.reached (inside (cc) c.loop-octet-test.true)
    (sym c.length_right.ensures ∙ c.if-not-length_right.false)
    (met_there c.args.signal c.args.book.octets.now _ i (cc) (sym (ap (λ n. Err n) c.from.ensures ∙ c.in-Err.ensures)))
    c.args.reply.now told.0 (told.1 ∙ ap (front _) c.loop-octet.invariant.silent)

pub shift_one-requires : goal.shift_one-requires
unfolding our_in
shift_one-requires c =
    let all = behind_whole 0 c.args.payload.now in
    record_there c.args.signal c.args.to c.loop-octet.invariant.reached (inside (cc) c.loop-octet-test.true) c.args.book.right
    (met_there c.args.signal c.args.book.octets.now _ c.loop-octet.octet-index (cc) (sym c.in-Ok.ensures))

pub loop-octet-preserved : goal.loop-octet-preserved
unfolding our_in
loop-octet-preserved c =
    let all = behind_whole 0 c.args.payload.now in
    record {
      silent = c.loop-octet.invariant.silent;
      reached = reached_next c.args.signal c.args.to c.loop-octet.invariant.reached (inside (cc) c.loop-octet-test.true)
          c.args.book.right
          (met_there c.args.signal c.args.book.octets.now _ c.loop-octet.octet-index (cc) (sym c.in-Ok.ensures))
          c.shift_one.ensures (λ k. (c.type_inv.records k).fits);
    }

pub returns : goal.returns
returns c =
    shifted_all c.args.signal c.args.to c.loop-octet.invariant.reached
    (sym c.length_right.ensures ∙ c.if-not-length_right.false) (omega (arith, length-take {A = ℕ}, length-drop {A = ℕ})) refl
    c.loop-octet.invariant.silent
