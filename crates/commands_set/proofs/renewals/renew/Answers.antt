-- `renew` meets its contract: the stored configuration is copied, and with the new elements is written anew.
use Rattle.std.proofs.Common.{◌≡◌, ◌≤◌, length, take, sym, refl, ap, ◌∙◌, arith, length-take-le}
use Rattle.elements.specs.Marks.{no_marks, marks_from}
use Rattle.saved.specs.Records.{config_at}
use Rattle.commands_set.proofs.Anew.{copy_fits, copied, renew_fits, renew_keeps, renew_writes}
use Rattle.commands_set.proofs.renewals.renew.Goals as goal
use Rattle.commands_set.proofs.renewals.renew.Goals.{After-put, After-places-marks}

-- the copy is as long as it was before, and has room for what is stored
copy_room : (c : After-put) → length c.config-stored.result.now ≤ length c.put.new.dst
copy_room c =
    omega (arith, copy_fits c.requires c.config-stored.ensures, c.put.auto)

-- what is lent of it is what is stored
old_same : (c : After-put)
    → take (length c.config-stored.result.now) c.put.new.dst ≡ config_at c.args.index c.args.records.now
old_same c =
    copied c.requires c.config-stored.ensures _ refl c.put.ensures

-- the marks of what is stored
marks : (c : After-places-marks)
    → c.places-marks.result ≡ marks_from (take (length c.config-stored.result.now) c.put.new.dst) 0 no_marks
marks c = c.places-marks.ensures ∙ ap (marks_from _ 0) c.none.ensures

pub put-requires : goal.put-requires
put-requires c =
    copy_fits c.requires c.config-stored.ensures

pub slice_bounds-copy-end : goal.slice_bounds-copy-end
slice_bounds-copy-end c =
    copy_room (goal.at.slice_bounds-copy-end c).After-put

pub slice_bounds-list-end : goal.slice_bounds-list-end
slice_bounds-list-end c =
    sym (length-take-le _ _ (copy_room (goal.at.slice_bounds-list-end c).After-put))

pub invariant_of-keep : goal.invariant_of-keep
invariant_of-keep c =
    let here = goal.at.invariant_of-keep c in
    record { fits = renew_fits c.requires (old_same here.After-put) (marks here.After-places-marks) }

pub keep-requires : goal.keep-requires
keep-requires c =
    let here = goal.at.keep-requires c in
    renew_keeps c.requires (old_same here.After-put) (marks here.After-places-marks)

pub returns : goal.returns
returns c =
    let here = goal.at.returns c in
    renew_writes c.requires (old_same here.After-put) (marks here.After-places-marks) c.keep.ensures
