use Rattle.std.proofs.Common.{◌∙◌}
use Rattle.serde_json.proofs.OnLiterals.{serde_json_on_literals}
use Rattle.serde_json.proofs.Views.{view-Object}
use Rattle.availability.proofs.layer.layer_value.Goals as goal

pub returns : goal.returns
unfolding serde_json_on_literals
returns c =
    view-Object c.put_text-5.new.object
    ∙ rw (c.in_ok-put_text-5.ensures, c.in_ok-put-5.ensures.ok, c.in_ok-put_text-4.ensures, c.in_ok-put_text-3.ensures, c.in_ok-put_text-2.ensures, c.in_ok-put-4.ensures.ok, c.in_ok-put-3.ensures.ok, c.in_ok-put_text.ensures, c.in_ok-put-2.ensures.ok, c.in_ok-put.ensures.ok, c.in_ok-tiles.ensures, c.from-2.ensures, c.from.ensures, c.in_ok-bounds.ensures, c.new-object.ensures.empty)
