use Rattle.std.proofs.Common.{◌≡◌, ◌++◌, length, take, drop, ap, ◌∙◌, rules}
use Rattle.std.proofs.Math.Seq.{take-append_seam}
use Rattle.heightmap_out.specs.Sample.{samples_of}
use Rattle.heightmap_out.specs.Mask.{mask_of}
use Rattle.heightmap_out.specs.Tile.{heightmap_text, heightmap_of}
use Rattle.heightmap_out.proofs.Texts.{text_length}
use Rattle.heightmap_out.proofs.tile.heightmap.Goals as goal

pub returns-clause-value : goal.returns-clause-value
unfolding heightmap_of
returns-clause-value g c told is short =
    let params = c.args.params.now in
    let room = c.in_ok-samples.samples in
    let out = c.fill_samples.new.out in
    let len : room.len ≡ length out = search rules in
    let same : c.deref.result.now ≡ out = c.deref.ensures.value
    ∙ ap (λ n. take n (out ++ drop (length out) room.items)) len
    ∙ take-append_seam out (drop (length out) room.items) in
    let samples = same ∙ c.in_ok-fill_samples.ensures.value told is in
    let mask = c.mask.ensures ∙ ap (λ cells. mask_of params.cap cells c.args.tile) short in
    c.in_ok-bytes.ensures ∙ ap (λ s. heightmap_text s c.mask.result) samples
    ∙ ap (heightmap_text (samples_of params.fill told c.args.tile)) mask

pub returns-clause-long : goal.returns-clause-long
returns-clause-long g c =
    let full : length c.deref.result.now ≡ 4225 = search rules in
    ap length c.in_ok-bytes.ensures ∙ text_length c.deref.result.now c.mask.result full
