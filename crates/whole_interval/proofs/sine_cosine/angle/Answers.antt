use Rattle.whole_interval.proofs.Angle.{angle_is}
use Rattle.whole_interval.proofs.Sizes.{angle_up_to}
use Rattle.whole_interval.proofs.sine_cosine.angle.Goals as goal

pub returns : goal.returns
returns c =
    let t = c.args.t in
    let d = c.args.d in
    let same = angle_is t d c.div_ceil.result c.div_ceil.ensures c.requires.positive c.requires.octant in
    record { exact = same; size = rw same (angle_up_to t d c.requires.positive c.requires.octant) }
