-- Calls on a source, one after another: what all leave together, what a later one shows, and what it gives.
use Rattle.std.proofs.Common.{◌≡◌, ◌≤◌, ℕ, Bool, List, Option, Some, None, refl, sym, ap, ◌∙◌, subst, arith}
use Rattle.std.specs.Prelude.{Result, Ok, Err, IfSome, IsTrue, IsErrAnd}
use Rattle.terrain_base.proofs.Causes.{rose_from}
use Rattle.terrain_base.specs.Step.{Files}
use Rattle.terrain_base.specs.declared.store.Change.{Change}
use Rattle.cell_mosaic.specs.declared.fault.SourceFault.{SourceFault}
use Rattle.cell_mosaic.specs.declared.fault.SourceFault.TheVariants.{Failed, NoMemory, Cell}
use Rattle.cell_mosaic.specs.Cells.{Cells, Shapes}
use Rattle.cell_mosaic.specs.Source.{GivesTold, Keeps, IsTroubleWith, ShowsNamed, FaultIsShown, FaultHasCause, TroubleIsShown, Marks, Leaves}

not_told : (before after : Option Cells) → ((told : Cells) → before ≡ Some told → after ≡ Some told) → after ≡ None → before ≡ None
not_told None after stays none = refl
not_told (Some told) after stays none = absurd (let some = stays told refl in cc)

-- ---- what is kept

module _ {P : Type 0} {cells : P → Option Files → Option Cells} {shapes : P → Shapes} {is_sure : P → Bool} {a b : P} {files files' : Option Files} {log log' : Option (List Change)} (first : Keeps cells shapes is_sure a b files files' log log') where
  still_told : (told : Cells) → cells a files ≡ Some told → cells b files' ≡ Some told
  still_told told is = ap (cells b) first.held ∙ first.stays told is

  fault_before : (fault : SourceFault) → FaultIsShown (shapes b) files' (cells b files') fault → FaultIsShown (shapes a) files (cells a files) fault
  fault_before Failed shown = tt
  fault_before NoMemory shown = tt
  fault_before (Cell trouble) shown = record {
    subject = subst (λ s. IsTroubleWith s trouble) first.shape shown.subject;
    shown = subst (λ f. IfSome f (λ files. ShowsNamed files trouble)) first.held shown.shown;
    untold = not_told (cells a files) (cells b files') still_told shown.untold;
  }

  -- what the next call shows, the first could have shown
  shown_before : {T : Type 0} (result : Result T SourceFault) → TroubleIsShown (shapes b) files' (cells b files') result → TroubleIsShown (shapes a) files (cells a files) result
  shown_before (Ok given) shown = shown
  shown_before (Err fault) shown = fault_before fault shown

module _ {P : Type 0} {cells : P → Option Files → Option Cells} {shapes : P → Shapes} {is_sure : P → Bool} {a b c : P} {files files' files'' : Option Files} {log log' log'' : Option (List Change)} where
  keeps_on : Keeps cells shapes is_sure a b files files' log log' → Keeps cells shapes is_sure b c files' files'' log' log'' → Keeps cells shapes is_sure a c files files'' log log''
  keeps_on first next = record {
    shape = next.shape ∙ first.shape;
    certain = next.certain ∙ first.certain;
    stays = λ told is. ap (cells c) (sym first.held) ∙ next.stays told (still_told first told is);
    held = next.held ∙ first.held;
    logged = next.logged ∙ first.logged;
  }

-- ---- what calls leave

cause_on : {T : Type 0} (before between now : ℕ) (result : Result T SourceFault) → before ≤ between → FaultHasCause between now result → FaultHasCause before now result
cause_on before between now result rose cause = record {
  later = let later = cause.later in omega (arith, rose, later);
  failed = λ is. rose_from rose (cause.failed is);
}

marks_on : {T : Type 0} (before between now : Bool) (result : Result T SourceFault) → between ≡ before → Marks between now result → Marks before now result
marks_on before between now (Ok given) same marks = record { unspoilt = marks.unspoilt ∙ same; troubled = marks.troubled }
marks_on before between now (Err fault) same marks = record { unspoilt = marks.unspoilt; troubled = marks.troubled }

abbrev failure : (T : Type 0) → SourceFault → Result T SourceFault
failure T fault = Err fault

fault_of_failure : (T : Type 0) (fault other : SourceFault) → failure T fault ≡ failure T other → fault ≡ other
fault_of_failure T fault other same = cc

module _ {P S : Type 0} {cells : P → Option Files → Option Cells} {shapes : P → Shapes} {is_sure is_spoilt : P → Bool} {holds : S → Option Files} {log : S → Option (List Change)} {faults : S → ℕ} where
  -- told cells stay told to the next call
  pub told_next : {T : Type 0} {a b : P} {s t : S} {result : Result T SourceFault} → Leaves cells shapes is_sure is_spoilt holds log faults a b s t result
      → (told : Cells) → cells a (holds s) ≡ Some told → cells b (holds t) ≡ Some told
  told_next first told is = still_told first.keeps told is

  -- before the first call nothing is changed
  pub leaves_none : {T : Type 0} {a : P} {s : S} (given : T) → Leaves cells shapes is_sure is_spoilt holds log faults a a s s (Ok given)
  leaves_none {s = s} given = record {
    sure = λ is. refl;
    shown = tt;
    cause = record { later = omega arith; failed = λ is. absurd (cc) };
    keeps = record { shape = refl; certain = refl; stays = λ told is. is; held = refl; logged = refl };
    spoilt = record { unspoilt = refl; troubled = tt };
  }

  -- what a call leaves after one that answered Ok, both leave
  pub leaves_then : {T U : Type 0} {a b c : P} {s t u : S} {given : T} {result : Result U SourceFault} → Leaves cells shapes is_sure is_spoilt holds log faults a b s t (Ok given)
      → Leaves cells shapes is_sure is_spoilt holds log faults b c t u result → Leaves cells shapes is_sure is_spoilt holds log faults a c s u result
  leaves_then {a = a} {b = b} {c = c} {s = s} {t = t} {u = u} {result = result} first next = record {
    sure = λ is. next.sure (subst IsTrue (sym first.keeps.certain) is);
    shown = shown_before first.keeps result next.shown;
    cause = cause_on (faults s) (faults t) (faults u) result first.cause.later next.cause;
    keeps = keeps_on first.keeps next.keeps;
    spoilt = marks_on (is_spoilt a) (is_spoilt b) (is_spoilt c) result first.spoilt.unspoilt next.spoilt;
  }

  -- what a call that answered Ok leaves says nothing of what it gave
  pub leaves_ok : {T U : Type 0} {a b : P} {s t : S} {given : T} (other : U) → Leaves cells shapes is_sure is_spoilt holds log faults a b s t (Ok given)
      → Leaves cells shapes is_sure is_spoilt holds log faults a b s t (Ok other)
  leaves_ok other first = record {
    sure = first.sure;
    shown = first.shown;
    cause = record { later = first.cause.later; failed = λ is. absurd (cc) };
    keeps = first.keeps;
    spoilt = record { unspoilt = first.spoilt.unspoilt; troubled = first.spoilt.troubled };
  }

  -- a fault that is handed on
  pub leaves_err : {T U : Type 0} {a b : P} {s t : S} {fault : SourceFault} (result : Result U SourceFault) → IsErrAnd result (λ e. e ≡ fault)
      → Leaves cells shapes is_sure is_spoilt holds log faults a b s t (failure T fault) → Leaves cells shapes is_sure is_spoilt holds log faults a b s t result
  leaves_err (Ok given) is first = absurd is
  leaves_err {T = T} {U = U} {a = a} {b = b} {s = s} {t = t} {fault = fault} (Err e) is first = subst (λ f. Leaves cells shapes is_sure is_spoilt holds log faults a b s t (failure U f)) (sym is) (record {
    sure = first.sure;
    shown = first.shown;
    cause = record { later = first.cause.later; failed = λ same. first.cause.failed (ap (failure T) (fault_of_failure U fault Failed same)) };
    keeps = first.keeps;
    spoilt = record { unspoilt = first.spoilt.unspoilt; troubled = first.spoilt.troubled };
  })

-- what a later call gives of the told cells is what the whole says of them
pub given_on : {T : Type 0} {told told' : Option Cells} {said said' : Cells → T} (result : Result T SourceFault) → ((cells : Cells) → told' ≡ Some cells → (told ≡ Some cells) × ((given : T) → given ≡ said cells → given ≡ said' cells))
    → GivesTold told said result → GivesTold told' said' result
given_on (Ok given) next gives = λ cells is. let h = next cells is in h.1 given (gives cells h.0)
given_on (Err fault) next gives = gives
