-- A cell whose bytes come one part after another: its header, and then record by record.
use Rattle.std.proofs.Common.{◌≡◌, ℕ, ◌+◌, ◌*◌, ◌<◌, ◌≤◌, List, ◌++◌, length, fold, slice_range, Option, Some, None, IfSome, Result, Ok, Err, IfOk, sym, ap, ap₂, ◌∙◌, subst, inl, inr, arith, append_assoc, length-append}
use Rattle.std.specs.List.{count_by}
use Rattle.std.specs.Result.{result_ok, result_err}
use Rattle.std.specs.Io.KnownBytes.{Consumes}
use Rattle.std.proofs.lemmas.Bool.{cases_eq}
use Rattle.common_laws.specs.First.{first_of}
use Rattle.common_laws.proofs.First.{none_of_two, when_not, none_by_flat}
use Rattle.dted_cell.specs.declared.counts.Counts.{Counts}
use Rattle.dted_cell.specs.declared.header.Header.{Header}
use Rattle.dted_cell.specs.declared.refusal.CellRefusal.{CellRefusal}
use Rattle.dted_cell.specs.declared.facts.CellFacts.{CellFacts}
use Rattle.dted_cell.specs.Lead.{lead_of, text_behind_lead}
use Rattle.dted_cell.specs.Fields.{SaysHeader}
use Rattle.dted_cell.specs.Refusal.{header_conditions, record_conditions, data_conditions, refusal_of}
use Rattle.dted_cell.specs.Record.{record_at, posts_at, IsRecord}
use Rattle.dted_cell.specs.Cell.{rows_in, columns_in, is_void_post, widened}
use Rattle.dted_cell.specs.Counts.{joined, IsCounted}
use Rattle.dted_cell.specs.Facts.{IsFront, IsColumn, HasColumns, AreRecords, AreFacts}
use Rattle.dted_cell.proofs.Cells.{refusal_parts}
use Rattle.dted_cell.proofs.Columns.{sum_next, extremes_next, counted_by}
use Rattle.dted_cell.proofs.Fronts.{front_unlabelled, front_text, front_accepted, front_says}
use Rattle.dted_cell.proofs.RecordLaws.{by_record}
use Rattle.dted_cell.proofs.WholeCells.{by_long}
use Rattle.dted_cell.proofs.OwnBytes.{part_between, to_text, posts_in_text}

-- ---- known bytes
pub consumes_then : (first second third : Option (List ℕ)) (before more : List ℕ) → Consumes first second before → Consumes second third more → Consumes first third (before ++ more)
consumes_then None second third before more h k = tt
consumes_then (Some all) None third before more h k = absurd h
consumes_then (Some all) (Some rest) None before more h k = k
consumes_then (Some all) (Some rest) (Some last) before more h k = h ∙ ap (λ (bytes : List ℕ). before ++ bytes) k ∙ sym (append_assoc before more last)

-- ---- the header
pub front_by : (bytes : List ℕ) (result : Result Header CellRefusal) → length bytes ≡ 3428 → lead_of bytes ≡ 0 → result_err result ≡ first_of (header_conditions bytes) → IfOk result (SaysHeader bytes) → IfSome (result_ok result) (IsFront bytes)
front_by bytes (Ok header) long lead refusal says = record { length_is = long; unlabelled = lead; accepted = sym refusal; says = says }
front_by bytes (Err refusal) long lead refused says = tt

-- what is read of a header is one that the reader gave
pub front_read : (bytes : List ℕ) (before after : Option (List ℕ)) (result : Result Header CellRefusal) (found : Option Header) → Consumes before after bytes → IfSome (result_ok result) (IsFront bytes) → found ≡ result_ok result → IfSome found (λ header. Consumes before after bytes × IsFront bytes header)
front_read bytes before after (Ok header) (Some other) read front is = subst (λ found. IfSome found (λ header. Consumes before after bytes × IsFront bytes header)) (sym is) (read, front)
front_read bytes before after (Ok header) None read front is = tt
front_read bytes before after (Err refusal) (Some other) read front is = cc
front_read bytes before after (Err refusal) None read front is = tt

-- ---- one record more
-- where the record of a column stands, behind a header and the records before it
next_place : (header records : List ℕ) (rows col : ℕ) → length header ≡ 3428 → length records ≡ col * (12 + 2 * rows) → length (header ++ records) ≡ record_at rows col
next_place header records rows col h k = omega (arith, length-append header records, h, k)

next_columns : (header records bytes rest : List ℕ) (rows col : ℕ) (counts more both : Counts) → length header ≡ 3428 → length records ≡ col * (12 + 2 * rows) → HasColumns (header ++ records ++ (bytes ++ rest)) rows col counts → IsColumn bytes rows col more
    → both.voids ≡ counts.voids + more.voids → both.extremes ≡ joined counts.extremes more.extremes → HasColumns (header ++ records ++ (bytes ++ rest)) rows (col + 1) both
next_columns header records bytes rest rows col counts more both long before has column voids extremes =
    let text = header ++ records ++ (bytes ++ rest) in
    let inner : header ++ records ++ bytes ++ rest ≡ text = append_assoc (header ++ records) bytes rest in
    let here = part_between (header ++ records) bytes rest (record_at rows col) (12 + 2 * rows) (next_place header records rows col long before) column.length_is ∙ ap (λ (t : List ℕ). slice_range t (record_at rows col) (record_at rows col + (12 + 2 * rows))) inner in
    let posts = posts_in_text text rows col bytes here in
    record {
      records = λ c h. elim (cases_eq c col) [
        | inl same ↦ subst (IsRecord text rows) (sym same) (to_text text rows col bytes here column.good)
        | inr apart ↦ has.records c (omega arith)
      ];
      voids_are =
          let sum_more = sum_next (count_by is_void_post) (posts_at text rows) col in
          omega (arith, voids, has.voids_are, column.voids_are ∙ ap (count_by is_void_post) posts, sum_more);
      extremes_are = extremes ∙ extremes_next (posts_at text rows) col counts.extremes more.extremes has.extremes_are (column.extremes_are ∙ ap (fold widened None) posts);
    }

pub next_records : (records bytes : List ℕ) (rows col : ℕ) (counts more both : Counts) → AreRecords records rows col counts → IsColumn bytes rows col more → both.voids ≡ counts.voids + more.voids → both.extremes ≡ joined counts.extremes more.extremes → AreRecords (records ++ bytes) rows (col + 1) both
next_records records bytes rows col counts more both are column voids extremes = record {
  length_is = omega (arith, length-append records bytes, are.length_is, column.length_is);
  each = λ header rest long.
      let parts : header ++ records ++ (bytes ++ rest) ≡ header ++ (records ++ bytes) ++ rest = sym (append_assoc (header ++ records) bytes rest) ∙ ap (λ (t : List ℕ). t ++ rest) (append_assoc header records bytes) in
      subst (λ text. HasColumns text rows (col + 1) both) parts
      (next_columns header records bytes rest rows col counts more both long are.length_is (are.each header (bytes ++ rest) long) column voids extremes);
}

-- ---- the whole file
-- what the front of a file says is what the file says
record SaysFront (bytes : List ℕ) (header : Header) : Type 0 where
  unlabelled : lead_of bytes ≡ 0
  text : text_behind_lead bytes ≡ bytes
  accepted : first_of (header_conditions bytes) ≡ None
  says : SaysHeader bytes header

whole_front : (front rest : List ℕ) (header : Header) → IsFront front header → SaysFront (front ++ rest) header
whole_front front rest header is = record {
  unlabelled = front_unlabelled front rest is.length_is is.unlabelled;
  text = front_text front rest is.length_is is.unlabelled;
  accepted = front_accepted front rest is.length_is is.unlabelled is.accepted;
  says = front_says front rest is.length_is is.unlabelled header is.says;
}

module _ (bytes : List ℕ) (header : Header) (counts : Counts) (front : SaysFront bytes header) (long : record_at header.rows header.columns ≤ length bytes) (has : HasColumns bytes header.rows header.columns counts) where
  whole_long : record_at (rows_in bytes) (columns_in bytes) ≤ length (text_behind_lead bytes)
  whole_long =
      let rows : record_at header.rows header.columns ≡ record_at (rows_in bytes) (columns_in bytes) = ap₂ record_at front.says.rows_are front.says.columns_are in
      omega (arith, long, rows, ap length front.text)

  whole_records : (col : ℕ) → col < columns_in bytes → IsRecord (text_behind_lead bytes) (rows_in bytes) col
  whole_records col h =
      subst (λ text. IsRecord text (rows_in bytes) col) (sym front.text)
      (subst (λ rows. IsRecord bytes rows col) front.says.rows_are (has.records col (omega (arith, h, front.says.columns_are))))

  whole_accepted : refusal_of bytes ≡ None
  unfolding data_conditions
  whole_accepted =
      let text = text_behind_lead bytes in
      let rows = rows_in bytes in
      let columns = columns_in bytes in
      refusal_parts bytes
      ∙ none_of_two _ _ front.accepted
      (
      none_of_two _ _ (when_not _ _ (by_long bytes (record_at rows columns) whole_long (omega arith)))
      (none_by_flat (record_conditions text rows) columns (λ col u. by_record text rows col (whole_records col u)))
      )

  whole_counts : IsCounted bytes counts
  whole_counts = counted_by bytes bytes header.columns header.rows counts (sym front.text) front.says.columns_are front.says.rows_are has.voids_are has.extremes_are

  whole_facts : (facts : CellFacts) → facts.square ≡ header.square → facts.level ≡ header.level → facts.voids ≡ counts.voids → facts.extremes ≡ counts.extremes → AreFacts bytes facts
  whole_facts facts square level voids extremes = record {
    accepted = whole_accepted;
    square_is = square ∙ front.says.square_is;
    level_is = level ∙ front.says.level_is;
    voids_are = voids ∙ whole_counts.voids_are;
    extremes_are = extremes ∙ whole_counts.extremes_are;
  }

module _ (header : Header) (counts : Counts) (facts : CellFacts) (square : facts.square ≡ header.square) (level : facts.level ≡ header.level) (voids : facts.voids ≡ counts.voids) (extremes : facts.extremes ≡ counts.extremes) where
  read_bytes : (front records rest : List ℕ) → IsFront front header → AreRecords records header.rows header.columns counts → AreFacts (front ++ records ++ rest) facts
  read_bytes front records rest is are =
      let bytes = front ++ records ++ rest in
      let long : record_at header.rows header.columns ≤ length bytes = omega (arith, length-append (front ++ records) rest, length-append front records, is.length_is, are.length_is) in
      let whole : SaysFront bytes header = subst (λ text. SaysFront text header) (sym (append_assoc front records rest)) (whole_front front (records ++ rest) header is) in
      whole_facts bytes header counts whole long (are.each front rest is.length_is) facts square level voids extremes

  pub known_facts : (before between after : Option (List ℕ)) (front records : List ℕ) → Consumes before between front → IsFront front header → Consumes between after records → AreRecords records header.rows header.columns counts → IfSome before (λ bytes. AreFacts bytes facts)
  known_facts before between after front records read_front is read_records are = by_rest before after (consumes_then before between after front records read_front read_records)
    where
      by_rest : (known left : Option (List ℕ)) → Consumes known left (front ++ records) → IfSome known (λ bytes. AreFacts bytes facts)
      by_rest None left read = tt
      by_rest (Some bytes) None read = absurd read
      by_rest (Some bytes) (Some rest) read = subst (λ text. AreFacts text facts) (sym read) (read_bytes front records rest is are)
