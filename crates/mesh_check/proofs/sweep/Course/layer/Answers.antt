-- The members of the next slab.
use Rattle.std.proofs.Common.{refl}
use Rattle.mesh_check.proofs.Through.{ready_active, ready_once, ready_all, layer_of}
use Rattle.mesh_check.proofs.sweep.Course.layer.Goals as goal

pub slab_members-requires-clause-active : goal.slab_members-requires-clause-active
slab_members-requires-clause-active c =
    ready_active c.args.self.now c.requires.course c.go_on.new.active c.args.low c.args.high c.requires.is
    c.deref.result.now c.in_ok-go_on.ensures c.deref.ensures.value
    c.slab_between-slab.result c.slab_between-slab.ensures c.deref-2.result.now c.deref-2.ensures.value
    c.deref-3.result.now c.deref-3.ensures.value

pub slab_members-requires-clause-once : goal.slab_members-requires-clause-once
slab_members-requires-clause-once c =
    ready_once c.args.self.now c.requires.course c.go_on.new.active c.args.low c.args.high c.requires.is
    c.deref.result.now c.in_ok-go_on.ensures c.deref.ensures.value
    c.slab_between-slab.result c.slab_between-slab.ensures c.deref-2.result.now c.deref-2.ensures.value
    c.deref-3.result.now c.deref-3.ensures.value

pub slab_members-requires-clause-all : goal.slab_members-requires-clause-all
slab_members-requires-clause-all c =
    ready_all c.args.self.now c.requires.course c.go_on.new.active c.args.low c.args.high c.requires.is
    c.deref.result.now c.in_ok-go_on.ensures c.deref.ensures.value
    c.slab_between-slab.result c.slab_between-slab.ensures c.deref-2.result.now c.deref-2.ensures.value
    c.deref-3.result.now c.deref-3.ensures.value

pub returns-clause-layer : goal.returns-clause-layer
returns-clause-layer c =
    layer_of c.args.self.now c.requires.course c.go_on.new.active c.args.low c.args.high c.requires.is
    c.deref.result.now c.in_ok-go_on.ensures c.deref.ensures.value
    c.slab_between-slab.result c.slab_between-slab.ensures c.deref-2.result.now c.deref-2.ensures.value
    c.deref-3.result.now c.deref-3.ensures.value
    (record {
      slab = c.slab_between-slab.result;
      members =
          c.in_ok-members.members;
    }) refl c.in_ok-members.ensures.members c.in_ok-members.ensures.on_tile
    c.in_ok-members.ensures.count
