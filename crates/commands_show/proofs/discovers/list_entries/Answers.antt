-- `list_entries` meets its contract: at a turn, what is written and the octets that are left behind it are the whole answer.
use Rattle.std.proofs.Common.{◌≡◌, ℕ, ◌+◌, ◌-◌, ◌*◌, ◌≤◌, Bool, true, false, length, if◌then◌else◌, refl, ap, arith, length-set}
use Rattle.rules.specs.Endpoints.{Endpoint, is_idle}
use Rattle.rules.specs.Commands.{in_use}
use Rattle.rules.specs.declared.OurSeid.{OurSeid}
use Rattle.rules.proofs.RightBook.{right_book}
use Rattle.octets.specs.Patch.{patch}
use Rattle.commands_show.proofs.Discovering.{all_left, first_left, seid_left, rest_left, all_octets}
use Rattle.commands_show.proofs.Discovering.{octets_turn, octets_said}
use Rattle.commands_show.proofs.discovers.list_entries.Goals as goal
use Rattle.commands_show.proofs.discovers.list_entries.Goals.{In-loop-i}

-- at most 16 entries, so that the answer has room
room : (c : In-loop-i) → c.loop-i.i * 2 + (c.count-entries.result - c.loop-i.i) * 2 ≤ length c.loop-i.reply
room c =
    omega (arith, (right_book c.args.book.octets.now c.args.book.right).few, c.count-entries.ensures)

-- one bit
used_little : (e : Endpoint) {n : ℕ} → n ≡ in_use e → n ≤ 2
unfolding in_use
used_little e {n} = go (is_idle e.head.state)
  where
    go : (b : Bool) → n ≡ (if b then 0 else 2) → n ≤ 2
    go true h = omega arith
    go false h = omega arith

-- the SEID leaves room for it
seid_little : {s : OurSeid} {n : ℕ} → s ≡ record { 0 = n } → n ≤ 62 → s.0 ≤ 62
seid_little e h =
    omega (arith, ap (λ (x : OurSeid). x.0) e)

pub loop-i-init : goal.loop-i-init
loop-i-init c =
    record {
      room = refl;
      left = all_left c.args.book.octets.now _ c.args.book.right c.count-entries.ensures;
      said = ap (λ s. patch 0 s c.args.reply.now)
          (all_octets c.args.book.octets.now c.args.records.now _ c.count-entries.ensures);
    }

pub entry-entry-requires : goal.entry-entry-requires
entry-entry-requires c =
    let n = c.count-entries.result - (c.loop-i.i + 1) in
    first_left n (c.count-entries.result - c.loop-i.i) _ c.loop-i.at (omega arith) c.loop-i.invariant.left

pub overflow_mul-reply : goal.overflow_mul-reply
overflow_mul-reply c =
    let n = c.count-entries.result - (c.loop-i.i + 1) in
    let seid = seid_left n (c.count-entries.result - c.loop-i.i) _ c.loop-i.at (omega arith) c.loop-i.invariant.left in
    omega (arith, seid_little c.entry-entry.ensures.seid seid)

pub overflow_add-reply : goal.overflow_add-reply
overflow_add-reply c =
    let n = c.count-entries.result - (c.loop-i.i + 1) in
    let seid = seid_left n (c.count-entries.result - c.loop-i.i) _ c.loop-i.at (omega arith) c.loop-i.invariant.left in
    omega (arith, seid_little c.entry-entry.ensures.seid seid, used_little _ c.in_use.ensures)

pub bounds-reply-i : goal.bounds-reply-i
bounds-reply-i c =
    omega (arith, room (goal.at.bounds-reply-i c).In-loop-i)

pub bounds-reply-i-in-loop-i : goal.bounds-reply-i-in-loop-i
bounds-reply-i-in-loop-i c =
    simp length-set (omega (arith, room (goal.at.bounds-reply-i-in-loop-i c).In-loop-i))

pub loop-i-preserved : goal.loop-i-preserved
loop-i-preserved c =
    let n = c.count-entries.result - (c.loop-i.i + 1) in
    let left = c.count-entries.result - c.loop-i.i in
    let e = c.entry-entry.ensures in
    let r = room (goal.at.loop-i-preserved c).In-loop-i in
    simp (e.seid, e.kind, e.from, e.size) (record {
      room = simp length-set c.loop-i.invariant.room;
      left = rest_left n left _ c.loop-i.at (omega arith) c.loop-i.invariant.left;
      said = octets_turn n left _ c.loop-i.at c.args.records.now c.loop-i.i (omega arith) c.loop-i.reply c.in_use.ensures
          (omega arith) c.loop-i.invariant.said;
    })

pub returns : goal.returns
returns c =
    let all_said = octets_said (c.count-entries.result - c.loop-i.i) c.args.book.octets.now c.loop-i.at c.args.records.now
    c.loop-i.i c.count-entries.result c.loop-i.reply c.args.reply.now (omega arith) c.count-entries.ensures
    c.loop-i.invariant.said in
    record { said = all_said.0; reply = all_said.1 }
