-- What a channel's coming up or going down makes of a head.
use Rattle.std.specs.Prelude.{Bool, true, false}
use Rattle.rules.specs.Endpoints.{idle_head, with_channel}
use Rattle.rules.specs.declared.Channel.TheVariants.{Up}
use Rattle.rules.specs.declared.Head.{Head}

abbrev pub switched_head : Bool → Head → Head
switched_head true h = with_channel Up h
switched_head false h = idle_head h.seid
