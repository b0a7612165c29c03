-- Keys of cells as rows: each may stand in every version whose rows are keys.
use Rattle.std.specs.Prelude.{true}
use Rattle.terrain_base.specs.declared.cell_key.CellKey.{CellKey}
use Rattle.terrain_base.specs.CellKey.{key_cmp, keys_total}
use Rattle.terrain_base.specs.Name.{row_text}
use Rattle.terrain_base.proofs.KeyTexts.{key_apart, line-key}
use Rattle.manifest_lines.specs.Grammar.{Grammar, IsGrammar}

abbrev pub key_grammar : Grammar CellKey
key_grammar = record { text = row_text; cmp = key_cmp; suits = λ v key. true }

pub key_sound : IsGrammar key_grammar
key_sound = record {
  line = line-key;
  apart = key_apart;
  trans = keys_total.trans;
}
