-- To unfold `reaching` is to unfold all definitions of this crate and of those that it uses; each file ends with its own.
use Rattle.isa.specs.Computed.{instructions}
use Rattle.reach.specs.Successors.{succession}
use Rattle.reach.specs.Search.{searching}
use Rattle.reach.specs.Call.{call_reach}

unfoldable pub reaching : Unit {0}
unfolding instructions succession searching call_reach
reaching = tt
