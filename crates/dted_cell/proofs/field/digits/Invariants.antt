use Rattle.std.proofs.Common.{◌≡◌, ◌<◌, ◌+◌, ◌-◌, ◌*◌, ◌^◌, drop}
use Rattle.std.specs.List.{fold, list_all}
use Rattle.std.specs.Char.{is_ascii_digit}
use Rattle.dted_cell.specs.Field.{decimal_value}
use Rattle.dted_cell.proofs.field.digits.Given as goal

abbrev pub invariant-loop-byte : goal.invariant-loop-byte
invariant-loop-byte l = record {
  small : l.number < 10 ^ l.byte-index;
  value : fold (λ n digit. 10 * n + (digit - 48)) l.number (drop l.byte-index l.field) ≡ decimal_value l.field;
  all : list_all is_ascii_digit (drop l.byte-index l.field) ≡ list_all is_ascii_digit l.field;
}
