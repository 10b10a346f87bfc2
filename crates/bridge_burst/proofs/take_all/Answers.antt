-- `take_all` meets its contract: at a turn, what is told and written, before what the packets left come to, is the whole burst.
use Rattle.std.proofs.Common.{ℕ, ◌+◌, ◌-◌, ◌≡◌, sym, ap, subst, take, drop, replicate, arith}
use Rattle.rules.specs.declared.Told.{Told}
use Rattle.rules.proofs.Unrefused.{burst_given}
use Rattle.bridge_burst.proofs.Reached.{Reached, reached_first, reached_all, may_take_at, reached_next}
use Rattle.bridge_burst.proofs.take_all.Goals as goal

pub loop-i-init : goal.loop-i-init
loop-i-init c = record {
  reached =
      subst
      (λ (t : Told).
      Reached c.args.book.octets.now c.args.size c.args.saved.now c.args.octets.now c.args.lengths.now c.args.reply.now
      (replicate 16 t) c.args.saved.now c.args.reply.now 0 0)
      (sym c.nothing-told.ensures) (reached_first _ _ _ _ _ _ (burst_given _ _ _ _ _ c.requires).given.right);
}

pub overflow_mul-i : goal.overflow_mul-i
overflow_mul-i c =
    let few = (burst_given _ _ _ _ _ c.requires).few in omega arith

pub take_at-requires : goal.take_at-requires
take_at-requires c =
    may_take_at _ _ _ _ _ _ (burst_given _ _ _ _ _ c.requires) c.loop-i.invariant.reached c.loop-i-test.true

pub bounds-told-i : goal.bounds-told-i
bounds-told-i c =
    let few = (burst_given _ _ _ _ _ c.requires).few in omega arith

pub loop-i-preserved : goal.loop-i-preserved
loop-i-preserved c =
    let size : c.loop-i.at + c.min.result - c.loop-i.at ≡ c.min.result = omega arith in record {
      reached =
          reached_next _ _ _ _ _ _ (burst_given _ _ _ _ _ c.requires) c.loop-i.invariant.reached c.loop-i-test.true
          c.min.result c.min.ensures _ _ _ _ (ap (λ (k : ℕ). take k (drop c.loop-i.at c.args.octets.now)) size)
          c.take_at.ensures;
    }

pub returns : goal.returns
returns c = reached_all _ _ _ _ _ _ c.loop-i.invariant.reached c.loop-i-test.false
