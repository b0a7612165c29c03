use Rattle.std.proofs.Common.{◌<◌, ◌≤◌, sym, ◌∙◌, subst, List, length, All}
use Rattle.std.specs.Int.{◌∣◌}
use Rattle.terrain_base.specs.Height.{IsHeight}
use Rattle.ecef_boxes.specs.Bounds.{IsBoxWithin}
use Rattle.ecef_boxes.specs.declared.ecef_box.EcefBox.{EcefBox}
use Rattle.height_lattice.specs.HeightFrame.{IsWithin}
use Rattle.height_lattice.specs.declared.height_frame.HeightFrame.{HeightFrame}
use Rattle.mesh_codec.specs.Mesh.{IsEncodable}
use Rattle.tile_mesh.specs.MeshNumbers.{IsVertexOnGrid}
use Rattle.tile_mesh.specs.declared.point.MeshPoint.{MeshPoint}
use Rattle.tile_bytes.proofs.Facts.{boxes_are, coded_is, facts, frame_is, header_is, multiple_is, sphere_is, text_is}
use Rattle.tile_bytes.proofs.terrain_file.terrain.Goals as goal

pub boxes-requires-clause-on_grid : goal.boxes-requires-clause-on_grid
boxes-requires-clause-on_grid c =
    subst (λ (ps : List MeshPoint). All IsVertexOnGrid ps) (sym c.points.ensures) (facts c.args.tile c.args.mesh.now c.requires).numbered.on_grid

pub boxes-requires-clause-heights : goal.boxes-requires-clause-heights
boxes-requires-clause-heights c =
    subst (λ (ps : List MeshPoint). All (λ p. IsHeight p.metres) ps) (sym c.points.ensures) (facts c.args.tile c.args.mesh.now c.requires).heights

pub sphere_of-sphere-requires-clause-some : goal.sphere_of-sphere-requires-clause-some
sphere_of-sphere-requires-clause-some c =
    let boxes = c.deref.ensures.value ∙ boxes_are c.args.tile c.args.mesh.now _ _ c.in_ok-boxes.ensures c.points.ensures in
    subst (λ (bs : List EcefBox). 0 < length bs) (sym boxes) (facts c.args.tile c.args.mesh.now c.requires).some_boxes

pub sphere_of-sphere-requires-clause-size : goal.sphere_of-sphere-requires-clause-size
sphere_of-sphere-requires-clause-size c =
    let boxes = c.deref.ensures.value ∙ boxes_are c.args.tile c.args.mesh.now _ _ c.in_ok-boxes.ensures c.points.ensures in
    subst (λ (bs : List EcefBox). All (IsBoxWithin 33) bs) (sym boxes) (facts c.args.tile c.args.mesh.now c.requires).boxes

pub horizon-multiple-requires-clause-size : goal.horizon-multiple-requires-clause-size
horizon-multiple-requires-clause-size c =
    let boxes = c.deref-2.ensures.value ∙ boxes_are c.args.tile c.args.mesh.now _ _ c.in_ok-boxes.ensures c.points.ensures in
    subst (λ (bs : List EcefBox). All (IsBoxWithin 33) bs) (sym boxes) (facts c.args.tile c.args.mesh.now c.requires).boxes

pub vertex_frame-frame-requires-clause-heights : goal.vertex_frame-frame-requires-clause-heights
vertex_frame-frame-requires-clause-heights c =
    subst (λ (ps : List MeshPoint). All (λ p. IsHeight p.metres) ps) (sym c.points-2.ensures) (facts c.args.tile c.args.mesh.now c.requires).heights

pub header-header-requires-clause-base : goal.header-header-requires-clause-base
header-header-requires-clause-base c =
    let frame = frame_is c.args.mesh.now c.vertex_frame-frame.result c.points-2.result.now c.vertex_frame-frame.ensures c.points-2.ensures in
    subst (λ (f : HeightFrame). IsHeight f.base) (sym frame) (facts c.args.tile c.args.mesh.now c.requires).frame.base

pub header-header-requires-clause-range : goal.header-header-requires-clause-range
header-header-requires-clause-range c =
    let frame = frame_is c.args.mesh.now c.vertex_frame-frame.result c.points-2.result.now c.vertex_frame-frame.ensures c.points-2.ensures in
    subst (λ (f : HeightFrame). f.range ≤ 32767) (sym frame) (facts c.args.tile c.args.mesh.now c.requires).frame.range

pub coded_mesh-requires-clause-divisor : goal.coded_mesh-requires-clause-divisor
coded_mesh-requires-clause-divisor c =
    let frame = frame_is c.args.mesh.now c.vertex_frame-frame.result c.points-2.result.now c.vertex_frame-frame.ensures c.points-2.ensures in
    subst (λ (f : HeightFrame). f.range ∣ 32767) (sym frame) (facts c.args.tile c.args.mesh.now c.requires).frame.frame.divides

pub coded_mesh-requires-clause-within : goal.coded_mesh-requires-clause-within
coded_mesh-requires-clause-within c =
    let frame = frame_is c.args.mesh.now c.vertex_frame-frame.result c.points-2.result.now c.vertex_frame-frame.ensures c.points-2.ensures in
    subst (λ (f : HeightFrame). All (λ p. IsWithin f p.metres) c.args.mesh.now.points) (sym frame) (facts c.args.tile c.args.mesh.now c.requires).frame.within

pub coded_mesh-requires-clause-numbered : goal.coded_mesh-requires-clause-numbered
coded_mesh-requires-clause-numbered c = (facts c.args.tile c.args.mesh.now c.requires).numbered

pub coded_mesh-requires-clause-few : goal.coded_mesh-requires-clause-few
coded_mesh-requires-clause-few c = (facts c.args.tile c.args.mesh.now c.requires).few

pub encode-requires : goal.encode-requires
encode-requires c =
    let frame = frame_is c.args.mesh.now c.vertex_frame-frame.result c.points-2.result.now c.vertex_frame-frame.ensures c.points-2.ensures in
    let coded = coded_is c.args.mesh.now c.vertex_frame-frame.result c.in_ok-coded.coded c.in_ok-coded.ensures frame in
    subst IsEncodable (sym coded) (facts c.args.tile c.args.mesh.now c.requires).encodable

pub returns-clause-bytes : goal.returns-clause-bytes
returns-clause-bytes c =
    let tile = c.args.tile in
    let mesh = c.args.mesh.now in
    let boxes = boxes_are tile mesh _ _ c.in_ok-boxes.ensures c.points.ensures in
    let frame = frame_is mesh c.vertex_frame-frame.result c.points-2.result.now c.vertex_frame-frame.ensures c.points-2.ensures in
    let sphere = sphere_is tile mesh c.sphere_of-sphere.result c.deref.result.now c.sphere_of-sphere.ensures.exact (c.deref.ensures.value ∙ boxes) in
    let multiple = multiple_is tile mesh c.horizon-multiple.result c.sphere_of-sphere.result c.deref-2.result.now c.horizon-multiple.ensures.exact sphere (c.deref-2.ensures.value ∙ boxes) in
    let coded = coded_is mesh c.vertex_frame-frame.result c.in_ok-coded.coded c.in_ok-coded.ensures frame in
    let header = header_is tile mesh c.header-header.result c.vertex_frame-frame.result c.sphere_of-sphere.result c.horizon-multiple.result c.horizon_point-point.result c.header-header.ensures c.horizon_point-point.ensures.exact frame sphere multiple in
    c.in_ok-bytes.ensures.text ∙ text_is tile mesh c.header-header.result c.in_ok-coded.coded header coded

pub returns-clause-horizon : goal.returns-clause-horizon
returns-clause-horizon c =
    let tile = c.args.tile in
    let mesh = c.args.mesh.now in
    let boxes = boxes_are tile mesh _ _ c.in_ok-boxes.ensures c.points.ensures in
    let sphere = sphere_is tile mesh c.sphere_of-sphere.result c.deref.result.now c.sphere_of-sphere.ensures.exact (c.deref.ensures.value ∙ boxes) in
    multiple_is tile mesh c.horizon-multiple.result c.sphere_of-sphere.result c.deref-2.result.now c.horizon-multiple.ensures.exact sphere (c.deref-2.ensures.value ∙ boxes)
