use Rattle.std.proofs.Common.{ap, ◌<◌, ◌^◌, length, arith, rules}
use Rattle.mesh_codec.specs.Extension.{extensions_from}
use Rattle.mesh_codec.specs.Tile.{extension_list}
use Rattle.mesh_codec.proofs.ExtensionCounts.{few_from}
use Rattle.mesh_codec.proofs.Places.{extensions_fit}
use Rattle.mesh_codec.proofs.extensions.Extensions.of.Goals as goal

pub invariant_of-result : goal.invariant_of-result
invariant_of-result c = rw c.extensions_start.ensures (extensions_fit c.args.bytes.now c.requires)

pub returns-clause-list : goal.returns-clause-list
unfolding extension_list
returns-clause-list c = ap (extensions_from c.args.bytes.now) c.extensions_start.ensures

pub returns-clause-few : goal.returns-clause-few
returns-clause-few c =
    let fits : length c.args.bytes.now < 2 ^ 63 = search rules in
    omega (arith, fits, few_from c.args.bytes.now c.extensions_start.result)
