-- Sorted and each once.
use Rattle.std.proofs.Common.{eqb, sym, subst}
use Rattle.std.specs.List.Sorted.{IsStrictlyIncreasing}
use Rattle.std.proofs.lemmas.List.Filters.{dedup_is}
use Rattle.std.proofs.lemmas.Map.Keys.{IsStrictlyIncreasing-dedup}
use Rattle.mesh_check.proofs.Towers.{are_levels}
use Rattle.mesh_check.proofs.mesh.levels_of.Goals as goal

pub returns-clause-ascending : goal.returns-clause-ascending
returns-clause-ascending c =
    subst (λ xs. IsStrictlyIncreasing xs)
    (sym (dedup_is eqb c.sort_unstable.new.self.items c.dedup.new.self.items c.dedup.ensures.filtered))
    (IsStrictlyIncreasing-dedup c.sort_unstable.new.self.items c.sort_unstable.ensures.sorted)

pub returns-clause-are : goal.returns-clause-are
returns-clause-are c =
    are_levels c.args.mesh.now c.in_ok-levels.levels.items c.sort_unstable.new.self.items c.dedup.new.self.items
    c.in_ok-levels.ensures c.sort_unstable.ensures.permutation
    (dedup_is eqb c.sort_unstable.new.self.items c.dedup.new.self.items c.dedup.ensures.filtered)
