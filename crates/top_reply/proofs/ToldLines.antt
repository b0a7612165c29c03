-- The whole lines that the sink took tell how many lines of a script are done.
use Rattle.std.proofs.Common.{◌≡◌, ◌⊎◌, inl, inr, ℕ, zero, suc, ◌+◌, ◌-◌, ◌<◌, ◌≤◌, nat_lt, Bool, true, false, List, [], ◌∷◌, ◌++◌, length, take, codes, cond, Option, Some, None, option_map, refl, sym, ap, subst, ◌∙◌, arith, append_assoc, length-append, if◌then◌else◌}
use Rattle.std.specs.Prelude.{IsSomeAnd, ◌≢◌}
use Rattle.std.specs.Cmp.{unsigned_Decides}
use Rattle.std.specs.FinMap.{get}
use Rattle.std.specs.List.{AllByRecursion, slice_split, onto_first}
use Rattle.std.proofs.lemmas.Bool.{cases_order}
use Rattle.std.proofs.lemmas.List.{append-nil, append_cancel_left, take-append-le}
use Rattle.terrain_base.specs.Library.{LibraryFiles}
use Rattle.terrain_base.specs.Sink.{FrontTaken, IsFront}
use Rattle.terrain_base.specs.Step.{Files, Step}
use Rattle.dted_cell.specs.declared.refusal.CellRefusal.{CellRefusal}
use Rattle.dted_cell.specs.Refusal as cell
use Rattle.terrain_base.specs.declared.cell_key.CellKey.{CellKey}
use Rattle.manifest_lines.specs.Line.{IsLine}
use Rattle.manifest_lines.proofs.Lines.{line-append}
use Rattle.top_words.specs.Script.{is_line_feed}
use Rattle.top_words.specs.Words.{Edit, Add, Replace, Remove}
use Rattle.database.specs.declared.answer.EngineAnswer.{EngineAnswer}
use Rattle.database.specs.Commands as database
use Rattle.database.specs.Commands.{Command, after, edit_of, refusal_of}
use Rattle.database.specs.State.{State}
use Rattle.db_report.specs.Done.{script_line_of, script_mark_of}
use Rattle.top_reply.specs.declared.stop.Stop.{Stop}
use Rattle.top_reply.specs.declared.stop.Stop.TheVariants as stop
use Rattle.top_reply.specs.Course.{World, Turn, quiet_turn, turns_text, text_turn, StopsAt}
use Rattle.top_reply.specs.Edits.{Wanted, Refused, Wants, done_line, wanted_by, wanted_of, wanted_reply, command_reply_by}
use Rattle.top_reply.specs.File.{Bytes, NoFile, cell_limit, found_in, too_long_text}
use Rattle.top_reply.specs.Laws.{LinesAreTold}
use Rattle.top_reply.specs.Lines.{Numbered, commands_of, done_in, ended_text, line_reply, refused_in, turn_by, turns_of, wanted_at}
use Rattle.top_reply.specs.Passed.{Stopped, state_at}
use Rattle.top_reply.specs.Reply.{cause_of, refused_reply}
use Rattle.top_reply.specs.Told.{StopsTold, lines_told, tells_line, told_in}
use Rattle.top_reply.proofs.FileLines.{HasLineName, HaveLineNames, front_line, have_line_names}
use Rattle.top_reply.proofs.NoFeeds.{absent_line, cell_line, done_is_line, mark_line, plain, refusal_line, script_line, too_long_line}

-- ---- lines, counted

is_feed : (byte : ℕ) → byte ≢ 10 → is_line_feed byte ≡ false
is_feed byte other = by_test (is_line_feed byte) refl
  where
    by_test : (b : Bool) → is_line_feed byte ≡ b → b ≡ false
    by_test false e = refl
    by_test true e = absurd (other ((unsigned_Decides byte 10).0 e))

cut_some : (text : List ℕ) → 0 < length (slice_split is_line_feed text)
cut_some [] = omega arith
cut_some (byte ∷ text) = by_test (is_line_feed byte)
  where
    onto_some : (parts : List (List ℕ)) → 0 < length (onto_first byte parts)
    onto_some [] = omega arith
    onto_some (part ∷ parts) = omega arith

    by_test : (b : Bool) → 0 < length (cond b ([] ∷ slice_split is_line_feed text)
        (onto_first byte (slice_split is_line_feed text)))
    by_test true = omega arith
    by_test false = onto_some (slice_split is_line_feed text)

told_first : (part : List ℕ) (parts : List (List ℕ)) → 0 < length parts
    → told_in (part ∷ parts) ≡ cond (tells_line part) 1 0 + told_in parts
told_first part [] some = absurd (omega (arith, some))
told_first part (next ∷ parts) some = refl

cut_first : (part rest : List ℕ) → IsLine part
    → slice_split is_line_feed (part ++ 10 ∷ rest) ≡ part ∷ slice_split is_line_feed rest
cut_first [] rest is = refl
cut_first (byte ∷ part) rest is =
    let other = is_feed byte is.0 in let later = cut_first part rest is.1 in rw (other, later) refl

cut_only : (text : List ℕ) → IsLine text → slice_split is_line_feed text ≡ text ∷ []
cut_only [] is = refl
cut_only (byte ∷ text) is =
    let other = is_feed byte is.0 in let later = cut_only text is.1 in rw (other, later) refl

told_more : (part rest : List ℕ) → IsLine part
    → lines_told (part ++ 10 ∷ rest) ≡ cond (tells_line part) 1 0 + lines_told rest
unfolding lines_told
told_more part rest is =
    ap told_in (cut_first part rest is) ∙ told_first part (slice_split is_line_feed rest) (cut_some rest)

told_none : (text : List ℕ) → IsLine text → lines_told text ≡ 0
unfolding lines_told
told_none text is = ap told_in (cut_only text is)

-- ---- texts that are one line

-- a line with its line feed, and whether it begins with `line `
pub record OneLine (tells : Bool) (text : List ℕ) : Type 0 where
  pub part : List ℕ
  pub same : text ≡ part ++ 10 ∷ []
  pub is : IsLine part
  pub tells_is : tells_line part ≡ tells

whole_told : (tells : Bool) (text rest : List ℕ) → OneLine tells text
    → lines_told (text ++ rest) ≡ cond tells 1 0 + lines_told rest
whole_told tells text rest one =
    ap (λ text. lines_told (text ++ rest)) one.same
    ∙ ap lines_told (append_assoc one.part (10 ∷ []) rest)
    ∙ told_more one.part rest one.is
    ∙ ap (λ b. cond b 1 0 + lines_told rest) one.tells_is

beyond : (n : ℕ) (xs : List ℕ) → length xs ≤ n → take n xs ≡ xs
beyond zero [] enough = refl
beyond zero (x ∷ xs) enough = absurd (omega (arith, enough))
beyond (suc n) [] enough = refl
beyond (suc n) (x ∷ xs) enough = ap (λ ys. x ∷ ys) (beyond n xs (omega (arith, enough)))

-- some first bytes of a line and its line feed: less than the line feed, or all
front_of : (count : ℕ) (part : List ℕ) → IsLine part
    → (lines_told (take count (part ++ 10 ∷ [])) ≡ 0) ⊎ (take count (part ++ 10 ∷ []) ≡ part ++ 10 ∷ [])
front_of count part is = by_order (cases_order count (length part))
  where
    within : count ≤ length part → lines_told (take count (part ++ 10 ∷ [])) ≡ 0
    within few =
        ap lines_told (take-append-le count part (10 ∷ []) few) ∙ told_none (take count part) (front_line count part is)

    by_order : (count ≡ length part) ⊎ ((count < length part) ⊎ (length part < count))
        → (lines_told (take count (part ++ 10 ∷ [])) ≡ 0) ⊎ (take count (part ++ 10 ∷ []) ≡ part ++ 10 ∷ [])
    by_order (inl same) = inl (within (omega (arith, same)))
    by_order (inr (inl less)) = inl (within (omega (arith, less)))
    by_order (inr (inr more)) =
        inr (beyond count (part ++ 10 ∷ []) (omega (arith, more, length-append part (10 ∷ []))))

front_told : (tells : Bool) (text : List ℕ) (count : ℕ) → OneLine tells text
    → (lines_told (take count text) ≡ 0) ⊎ (take count text ≡ text)
front_told tells text count one =
    subst (λ text. (lines_told (take count text) ≡ 0) ⊎ (take count text ≡ text)) (sym one.same)
    (front_of count one.part one.is)

-- ---- the turns of a script

record Body (text : List ℕ) : Type 0 where
  part : List ℕ
  same : text ≡ part ++ 10 ∷ []
  is : IsLine part

refused_body : (cause : List ℕ) → IsLine cause → Body (refused_reply cause).text
refused_body cause is = record {
  part = codes "refused " ++ cause;
  same = sym (append_assoc (codes "refused ") cause (10 ∷ []));
  is = line-append (codes "refused ") cause (plain (codes "refused ") refl) is;
}

command_body : (c : Command) (s : State) (answer : Option EngineAnswer) → refusal_of c s ≡ answer
    → Body (command_reply_by c s answer).text
command_body c s None e = record {
  part = done_line c (after (edit_of c) s);
  same = refl;
  is = done_is_line c (after (edit_of c) s);
}
command_body c s (Some answer) e = refused_body (cause_of answer) (refusal_line c s answer e)

IsLineWanted : Wanted → Type 0
IsLineWanted (Refused cause) = IsLine cause
IsLineWanted (Wants c) = Unit {0}

wanted_body : (want : Wanted) (s : State) → IsLineWanted want → Body (wanted_reply want s).text
unfolding IsLineWanted
wanted_body (Refused cause) s is = refused_body cause is
wanted_body (Wants c) s is = command_body c s (refusal_of c s) refl

bytes_wanted : (make : CellKey → List ℕ → Command) (bytes : List ℕ) (refusal : Option CellRefusal)
    → IsLineWanted (wanted_by make bytes refusal)
unfolding IsLineWanted
bytes_wanted make bytes None = tt
bytes_wanted make bytes (Some refusal) = cell_line refusal

found_wanted : (make : CellKey → List ℕ → Command) (file : List ℕ) (held : Option (List ℕ)) → IsLine file
    → IsLineWanted (wanted_of make (found_in file cell_limit held))
unfolding IsLineWanted
found_wanted make file None is = absent_line file is
found_wanted make file (Some bytes) is = by_test (nat_lt cell_limit (length bytes))
  where
    by_test : (b : Bool) → IsLineWanted (wanted_of make (if b then NoFile
        (too_long_text file cell_limit) else Bytes bytes))
    by_test true = too_long_line file cell_limit is
    by_test false = bytes_wanted make bytes (cell.refusal_of bytes)

edit_wanted : (edit : Option Edit) (library : LibraryFiles) → HasLineName edit → IsLineWanted (wanted_at edit library)
unfolding IsLineWanted
edit_wanted None library is = plain (codes "F3 not a command") refl
edit_wanted (Some (Add file)) library is = found_wanted database.Add file (get library file) is
edit_wanted (Some (Replace file)) library is = found_wanted database.Replace file (get library file) is
edit_wanted (Some (Remove key)) library is = tt

turn_told : (library : LibraryFiles) (line : Numbered) (s : State) → HasLineName line.edit
    → OneLine true (turn_by line.number (line_reply library line s)).text
turn_told library line s is =
    let body = wanted_body (wanted_at line.edit library) s (edit_wanted line.edit library is) in
    let mark = script_mark_of line.number in
    record {
      part = mark ++ body.part;
      same = ap (λ text. mark ++ text) body.same ∙ sym (append_assoc mark body.part (10 ∷ []));
      is = line-append mark body.part (mark_line line.number) body.is;
      tells_is = refl;
    }

AreTold : List Turn → Type 0
AreTold turns = AllByRecursion (λ turn. OneLine true turn.text) turns

turns_told : (library : LibraryFiles) (lines : List Numbered) (s : State) → HaveLineNames lines
    → AreTold (turns_of library lines s)
unfolding AreTold
turns_told library [] s all = tt
turns_told library (line ∷ lines) s all =
    (turn_told library line s all.0, turns_told library lines (line_reply library line s).next all.1)

end_told : (done refused : ℕ) → OneLine false (ended_text done refused)
end_told done refused = record {
  part = script_line_of done refused;
  same = refl;
  is = script_line done refused;
  tells_is = refl;
}

count_turns : (turns : List Turn) (rest : List ℕ) → AreTold turns
    → lines_told (turns_text turns ++ rest) ≡ length turns + lines_told rest
unfolding AreTold
count_turns [] rest all = omega arith
count_turns (turn ∷ turns) rest all =
    let first = ap lines_told (append_assoc turn.text (turns_text turns) rest)
    ∙ whole_told true turn.text (turns_text turns ++ rest) all.0 in
    let later = count_turns turns rest all.1 in
    omega (arith, first, later)

-- where turns of lines and a last one are cut, those before are of lines
record Cut (before : List Turn) (turn : Turn) : Type 0 where
  are : AreTold before
  tells : Bool
  one : OneLine tells turn.text

cut_at : (xs before later : List Turn) (last turn : Turn) → xs ++ last ∷ [] ≡ before ++ turn ∷ later → AreTold xs
    → OneLine false last.text → Cut before turn
unfolding AreTold
cut_at [] [] later last turn e all end =
    let same : last ≡ turn = cc in
    record { are = tt; tells = false; one = subst (λ (t : Turn). OneLine false t.text) same end }
cut_at [] (b ∷ before) later last turn e all end =
    let lengths = ap length e in absurd (omega (arith, lengths, length-append before (turn ∷ later)))
cut_at (x ∷ xs) [] later last turn e all end =
    let same : x ≡ turn = cc in
    record { are = tt; tells = true; one = subst (λ (t : Turn). OneLine true t.text) same all.0 }
cut_at (x ∷ xs) (b ∷ before) later last turn e all end =
    let same : x ≡ b = cc in
    let rest : xs ++ last ∷ [] ≡ before ++ turn ∷ later = cc in
    let cut = cut_at xs before later last turn rest all.1 end in
    record { are = (subst (λ (t : Turn). OneLine true t.text) same all.0, cut.are); tells = cut.tells; one = cut.one }

-- ---- what the sink took

record Put (e : Stop) (text taken : List ℕ) (taken' : Option (List ℕ)) : Type 0 where
  count : ℕ
  follows : taken' ≡ Some (taken ++ take count text)
  input : e ≡ stop.Input → count ≡ 0

none_put : (e : Stop) (text taken : List ℕ) (told taken' : Option (List ℕ)) → told ≡ Some taken → taken' ≡ told
    → Put e text taken taken'
none_put e text taken told taken' is same =
    record { count = 0; follows = same ∙ is ∙ ap Some (sym (append-nil taken)); input = λ e. refl }

front_put : (e : Stop) (text taken : List ℕ) (told taken' : Option (List ℕ)) → (e ≡ stop.Input → ⊥) → told ≡ Some taken
    → FrontTaken told text taken' → Put e text taken taken'
front_put e text taken told taken' other is front =
    let f : IsFront taken text taken' = subst (λ o. FrontTaken o text taken') is front in
    record { count = f.count; follows = f.follows; input = λ e. absurd (other e) }

is_put : (e : Stop) (turn : Turn) (w w' : World) (taken : List ℕ) → w.taken ≡ Some taken → StopsAt e turn w w'
    → Put e turn.text taken w'.taken
is_put stop.Input turn w w' taken is at = none_put stop.Input turn.text taken w.taken w'.taken is at.taken
is_put stop.Store turn w w' taken is at = none_put stop.Store turn.text taken w.taken w'.taken is at.taken
is_put stop.Output turn w w' taken is at =
    front_put stop.Output turn.text taken w.taken w'.taken (λ e. cc e) is at.front
is_put stop.NoMemory turn w w' taken is (inl at) =
    none_put stop.NoMemory turn.text taken w.taken w'.taken is at.taken
is_put stop.NoMemory turn w w' taken is (inr at) =
    front_put stop.NoMemory turn.text taken w.taken w'.taken (λ e. cc e) is at.front

-- ---- the law

-- as many as the turns before the stop, or one more that was put whole
abbrev Counts : Stop → ℕ → ℕ → Type 0 → Type 0
Counts e n told put = (told ≡ n) ⊎ ((told ≡ suc n) × put × (e ≡ stop.Input → ⊥))

-- what is put follows what was taken
same_more : (taken more front : List ℕ) (taken' : Option (List ℕ)) → taken' ≡ Some (taken ++ more)
    → taken' ≡ Some (taken ++ front) → more ≡ front
same_more taken more front taken' p q =
    let both : Some (taken ++ more) ≡ Some (taken ++ front) = sym p ∙ q in
    let same : taken ++ more ≡ taken ++ front = cc in append_cancel_left taken more front same

some_text : (tells : Bool) (text : List ℕ) → OneLine tells text → 0 < length text
some_text tells text one =
    let size = ap length one.same in omega (arith, size, length-append one.part (10 ∷ []))

-- a front that is all of a text is put
put_whole : (tells : Bool) (text taken : List ℕ) (told taken' : Option (List ℕ)) (count : ℕ) → OneLine tells text
    → told ≡ Some taken → taken' ≡ Some (taken ++ take count text) → take count text ≡ text → taken' ≡ told → ⊥
put_whole tells text taken told taken' count one is follows all same =
    let nothing : take count text ≡ [] =
    same_more taken (take count text) [] taken' follows (same ∙ is ∙ ap Some (sym (append-nil taken))) in
    let none : length text ≡ 0 = ap length (sym all ∙ nothing) in
    let some = some_text tells text one in omega (arith, none, some)

not_input : (e : Stop) (tells : Bool) (text taken : List ℕ) (taken' : Option (List ℕ)) (put : Put e text taken taken')
    → OneLine tells text → take put.count text ≡ text → e ≡ stop.Input → ⊥
not_input e tells text taken taken' put one all is =
    let zero_is = put.input is in
    let nothing : take put.count text ≡ [] = ap (λ n. take n text) zero_is in
    let none : length text ≡ 0 = ap length (sym all ∙ nothing) in
    let some = some_text tells text one in omega (arith, none, some)

-- one line's part in the count
front_count : (tells : Bool) (text front : List ℕ) → OneLine tells text → (lines_told front ≡ 0) ⊎ (front ≡ text)
    → (lines_told front ≡ 0) ⊎ ((lines_told front ≡ 1) × (front ≡ text))
front_count tells text front one (inl none) = inl none
front_count tells text front one (inr all) =
    by_kind tells (ap lines_told (all ∙ sym (append-nil text)) ∙ whole_told tells text [] one)
  where
    by_kind : (b : Bool) → lines_told front ≡ cond b 1 0 + lines_told []
        → (lines_told front ≡ 0) ⊎ ((lines_told front ≡ 1) × (front ≡ text))
    by_kind true is = let none = told_none [] tt in inr (omega (arith, is, none), all)
    by_kind false is = let none = told_none [] tt in inl (omega (arith, is, none))

-- behind turns of lines
counts_behind : (e : Stop) (before : List Turn) (turn : Turn) (taken more : List ℕ) (told taken' : Option (List ℕ))
    → Cut before turn → told ≡ Some (taken ++ turns_text before) → (put : Put e turn.text (taken ++ turns_text before) taken')
    → taken' ≡ Some (taken ++ more) → Counts e (length before) (lines_told more) (taken' ≡ told → ⊥)
counts_behind e before turn taken more told taken' cut is put follows =
    by_front (front_count cut.tells turn.text (take put.count turn.text) cut.one
    (front_told cut.tells turn.text put.count cut.one))
  where
    all_told : lines_told more ≡ length before + lines_told (take put.count turn.text)
    all_told = ap lines_told (same_more taken more (turns_text before ++ take put.count turn.text) taken' follows
        (put.follows ∙ ap Some (append_assoc taken (turns_text before) (take put.count turn.text))))
        ∙ count_turns before (take put.count turn.text) cut.are

    by_front : (lines_told (take put.count turn.text) ≡ 0)
        ⊎ ((lines_told (take put.count turn.text) ≡ 1) × (take put.count turn.text ≡ turn.text))
        → Counts e (length before) (lines_told more) (taken' ≡ told → ⊥)
    by_front (inl none) = inl (omega (arith, all_told, none))
    by_front (inr (one, all)) = inr (
      omega (arith, all_told, one),
      put_whole cut.tells turn.text (taken ++ turns_text before) told taken' put.count cut.one is put.follows all,
      not_input e cut.tells turn.text (taken ++ turns_text before) taken' put cut.one all,
    )

-- ---- of a script

told_mid : (before : List Turn) (w mid : World) (taken : List ℕ) → w.taken ≡ Some taken
    → mid.taken ≡ option_map (λ x. x ++ turns_text before) w.taken → mid.taken ≡ Some (taken ++ turns_text before)
told_mid before w mid taken is done = done ∙ ap (option_map (λ x. x ++ turns_text before)) is

counts : (e : Stop) (xs before later : List Turn) (steps : List Step) (tiles : ℕ) (last turn : Turn) (w mid w' : World)
    (taken more : List ℕ) → quiet_turn steps tiles ∷ (xs ++ last ∷ []) ≡ before ++ turn ∷ later → AreTold xs
    → OneLine false last.text → mid.taken ≡ option_map (λ x. x ++ turns_text before) w.taken → StopsAt e turn mid w'
    → w.taken ≡ Some taken → w'.taken ≡ Some (taken ++ more)
    → Counts e (length before - 1) (lines_told more) (w'.taken ≡ mid.taken → ⊥)
counts e xs [] later steps tiles last turn w mid w' taken more parts all end done at is follows =
    let same : quiet_turn steps tiles ≡ turn = cc in
    let silent : turn.text ≡ [] = ap (λ (t : Turn). t.text) (sym same) in
    let here = told_mid [] w mid taken is done in
    let put = is_put e turn mid w' (taken ++ []) here at in
    let front : take put.count turn.text ≡ [] =
    ap (take put.count) silent ∙ beyond put.count [] (omega arith) in
    let nothing : more ≡ [] = same_more taken more [] w'.taken follows
    (put.follows ∙ ap (λ xs. Some ((taken ++ []) ++ xs)) front ∙ ap Some (append-nil (taken ++ []))) in
    inl (ap lines_told nothing ∙ told_none [] tt)
counts e xs (first ∷ before) later steps tiles last turn w mid w' taken more parts all end done at is follows =
    let same : quiet_turn steps tiles ≡ first = cc in
    let rest : xs ++ last ∷ [] ≡ before ++ turn ∷ later = cc in
    let texts : turns_text (first ∷ before) ≡ turns_text before =
    ap (λ (t : Turn). t.text ++ turns_text before) (sym same) in
    let here : mid.taken ≡ Some (taken ++ turns_text before) =
    told_mid (first ∷ before) w mid taken is done ∙ ap (λ text. Some (taken ++ text)) texts in
    let cut = cut_at xs before later last turn rest all end in
    let put = is_put e turn mid w' (taken ++ turns_text before) here at in
    let size : length before ≡ length (first ∷ before) - 1 = omega arith in
    subst (λ n. Counts e n (lines_told more) (w'.taken ≡ mid.taken → ⊥)) size
    (counts_behind e before turn taken more mid.taken w'.taken cut here put follows)

first_told : (P : Files → Type 0) (Q : Files → Type 0) (held : Option Files) → IsSomeAnd held P
    → IsSomeAnd held (λ files. P files ⊎ Q files)
first_told P Q None holds = absurd holds
first_told P Q (Some files) holds = inl holds

module _ (Is : Files → State → Type 0) where
  by_count : (e : Stop) (s : State) (states : List State) (n told : ℕ) (held' : Option Files) (put : Type 0)
      → Stopped Is e s states n held' → (put → IsSomeAnd held' (λ files. Is files (state_at s states (suc n))))
      → (told ≡ n) ⊎ ((told ≡ suc n) × put × (e ≡ stop.Input → ⊥)) → StopsTold Is e s states told held'
  by_count e s states n told held' put stopped printed (inl same) =
      subst (λ k. StopsTold Is e s states k held') (sym same)
      (record { between = stopped.between; input = stopped.input })
  by_count e s states n told held' put stopped printed (inr more) =
      subst (λ k. StopsTold Is e s states k held') (sym more.0) (record {
        between = first_told (λ files. Is files (state_at s states (suc n)))
            (λ files. Is files (state_at s states (suc (suc n)))) held' (printed more.1);
        input = λ is. absurd (more.2 is);
      })

  pub lines_are_told : LinesAreTold Is
  lines_are_told library bytes lines s states steps tiles e w w' taken more are stops is follows =
      let at = stops.stops in
      let numbered = commands_of 1 lines in
      let last = text_turn (ended_text (done_in library numbered s) (refused_in library numbered s)) in
      by_count e s states (length at.before - 1) (lines_told more) w'.held (w'.taken ≡ at.mid.taken → ⊥) stops.stopped
      stops.printed
      (counts e (turns_of library numbered s) at.before at.later steps tiles last at.turn w at.mid w' taken more
      at.parts
      (turns_told library numbered s (have_line_names 1 bytes lines are))
      (end_told (done_in library numbered s) (refused_in library numbered s)) at.done.text at.at is follows)
