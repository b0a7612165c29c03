use Rattle.top_reply.proofs.GoodFiles.{good_files}
use Rattle.top_reply.proofs.laws.files_are_good.Goals as goal

pub returns : goal.returns
returns c = good_files c.files_are_good.ensures c.neighbours_meet.ensures.east c.neighbours_meet.ensures.north
