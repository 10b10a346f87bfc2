-- The measure of `codec_end` is what is left of the list.
use Rattle.std.proofs.Common.{◌-◌, length}
use Rattle.elements_stored.proofs.shown.+codec_end.Given as goal

abbrev pub decreases-codec_end : goal.decreases-codec_end
decreases-codec_end l = length l.list.now - l.at
