use Rattle.std.proofs.Common.{◌+ℤ◌, pos, is_some, sym, ap, ◌∙◌}
use Rattle.mesh_codec.specs.Difference.{difference, to_code}
use Rattle.mesh_codec.proofs.Places.{code_fits, code_some, code_here, read_next}
use Rattle.mesh_codec.proofs.vertex_codes.next_code.Goals as goal

pub short-requires : goal.short-requires
short-requires c = rw c.array_start.ensures (code_fits c.args.bytes.now c.args.vertices c.args.k c.args.before c.args.array c.requires.tile c.requires.count c.requires.place c.requires.before)

pub unwrap-requires : goal.unwrap-requires
unwrap-requires c =
    let word = rw c.array_start.ensures at c.short.ensures in
    ap is_some (c.code_after.ensures.code ∙ ap (λ w. to_code (pos c.args.before +ℤ difference w)) word)
    ∙ code_some c.args.bytes.now c.args.vertices c.args.k c.args.before c.args.array c.requires.tile c.requires.count c.requires.place c.requires.before

pub returns-clause-code : goal.returns-clause-code
returns-clause-code c =
    let word = rw c.array_start.ensures at c.short.ensures in
    let after = c.code_after.ensures.code ∙ ap (λ w. to_code (pos c.args.before +ℤ difference w)) word in
    code_here c.args.bytes.now c.args.vertices c.args.k c.args.before c.args.array c.requires.tile c.requires.count c.requires.place c.requires.before c.unwrap.result (sym after ∙ c.unwrap.ensures)

pub returns-clause-read : goal.returns-clause-read
returns-clause-read c =
    let word = rw c.array_start.ensures at c.short.ensures in
    let after = c.code_after.ensures.code ∙ ap (λ w. to_code (pos c.args.before +ℤ difference w)) word in
    read_next c.args.bytes.now c.args.vertices c.args.k c.args.before c.args.array c.requires.tile c.requires.count c.requires.place c.requires.before c.unwrap.result (sym after ∙ c.unwrap.ensures)
