-- How turns follow each other.
use Rattle.std.proofs.Common.{◌≡◌, ℕ, ◌+◌, ◌≤◌, List, [], ◌∷◌, ◌++◌, length, take, Option, Some, None, option_map, refl, sym, ap, subst, ◌∙◌, inl, inr, arith, append_assoc, length-append}
use Rattle.std.proofs.lemmas.List.{append-nil, take-append-le}
use Rattle.std.proofs.Math.Seq.{take-append-add, take-length}
use Rattle.terrain_base.specs.Run.{AllDone, SomeDone}
use Rattle.terrain_base.specs.Sink.{FrontTaken, IsFront}
use Rattle.terrain_base.proofs.Runs.{both_done, all_as, some_as, all_some, stops, goes_on, not_yet, quiet}
use Rattle.top_reply.specs.declared.stop.Stop.{Stop}
use Rattle.top_reply.specs.declared.stop.Stop.TheVariants.{Input, Store, Output, NoMemory}
use Rattle.top_reply.specs.Course.{World, Turn, steps_of, turns_text, tiles_of, TurnsDone, StopsAt, StopsIn}

-- ---- what turns after one another come to

pub steps_append : (xs ys : List Turn) → steps_of (xs ++ ys) ≡ steps_of xs ++ steps_of ys
steps_append [] ys = refl
steps_append (x ∷ xs) ys =
    ap (λ zs. x.steps ++ zs) (steps_append xs ys) ∙ sym (append_assoc x.steps (steps_of xs) (steps_of ys))

pub text_append : (xs ys : List Turn) → turns_text (xs ++ ys) ≡ turns_text xs ++ turns_text ys
text_append [] ys = refl
text_append (x ∷ xs) ys =
    ap (λ zs. x.text ++ zs) (text_append xs ys) ∙ sym (append_assoc x.text (turns_text xs) (turns_text ys))

pub tiles_append : (xs ys : List Turn) → tiles_of (xs ++ ys) ≡ tiles_of xs + tiles_of ys
tiles_append [] ys = omega arith
tiles_append (x ∷ xs) ys = let rest = tiles_append xs ys in omega (arith, rest)

-- ---- texts, one after another

told_both : (a b : List ℕ) (t m t' : Option (List ℕ)) → m ≡ option_map (λ x. x ++ a) t
    → t' ≡ option_map (λ x. x ++ b) m → t' ≡ option_map (λ x. x ++ (a ++ b)) t
told_both a b None m t' p q = q ∙ ap (option_map (λ x. x ++ b)) p
told_both a b (Some x) m t' p q = q ∙ ap (option_map (λ x. x ++ b)) p ∙ ap Some (append_assoc x a b)

pub told_none : (t : Option (List ℕ)) → t ≡ option_map (λ x. x ++ []) t
told_none None = refl
told_none (Some x) = ap Some (sym (append-nil x))

pub front_none : (b : List ℕ) (t t' : Option (List ℕ)) → t' ≡ t → FrontTaken t b t'
front_none b None t' p = p
front_none b (Some x) t' p = record { count = 0; within = omega arith; follows = p ∙ ap Some (sym (append-nil x)) }

pub front_all : (b : List ℕ) (t t' : Option (List ℕ)) → t' ≡ option_map (λ x. x ++ b) t → FrontTaken t b t'
front_all b None t' p = p
front_all b (Some x) t' p = record {
  count = length b;
  within = omega arith;
  follows = p ∙ ap (λ ys. Some (x ++ ys)) (sym (take-length b));
}

front_more : (a b : List ℕ) (t t' : Option (List ℕ)) → FrontTaken t a t' → FrontTaken t (a ++ b) t'
front_more a b None t' f = f
front_more a b (Some x) t' f = let within = f.within in record {
  count = f.count;
  within = omega (arith, length-append a b);
  follows = f.follows ∙ ap (λ ys. Some (x ++ ys)) (sym (take-append-le f.count a b within));
}

front_at : (a b x : List ℕ) (m t' : Option (List ℕ)) → m ≡ Some (x ++ a) → FrontTaken m b t' → IsFront x (a ++ b) t'
front_at a b x m t' p f = let g : IsFront (x ++ a) b t' = subst (λ o. FrontTaken o b t') p f in record {
  count = length a + g.count;
  within = omega (arith, length-append a b, g.within);
  follows = g.follows ∙ ap Some (append_assoc x a (take g.count b))
      ∙ ap (λ ys. Some (x ++ ys)) (sym (take-append-add a b g.count));
}

front_on : (a b : List ℕ) (t m t' : Option (List ℕ)) → m ≡ option_map (λ x. x ++ a) t → FrontTaken m b t'
    → FrontTaken t (a ++ b) t'
front_on a b None m t' p f = subst (λ o. FrontTaken o b t') p f
front_on a b (Some x) m t' p f = front_at a b x m t' p f

-- ---- turns that are done

pub turns_none : (w : World) → TurnsDone [] w w
turns_none w = record { steps = quiet refl refl; tiles = omega arith; text = told_none w.taken }

pub turns_both : {xs ys : List Turn} {w m w' : World} → TurnsDone xs w m → TurnsDone ys m w'
    → TurnsDone (xs ++ ys) w w'
turns_both {xs = xs} {ys = ys} {w = w} {m = m} {w' = w'} a b =
    let first = a.tiles in let second = b.tiles in let sum = tiles_append xs ys in record {
      steps = all_as (sym (steps_append xs ys)) (both_done a.steps b.steps);
      tiles = omega (arith, first, second, sum);
      text = told_both (turns_text xs) (turns_text ys) w.taken m.taken w'.taken a.text b.text
          ∙ ap (λ zs. option_map (λ x. x ++ zs) w.taken) (sym (text_append xs ys));
    }

pub one_turn : {turn : Turn} {w w' : World} → AllDone turn.steps w.held w.log w'.held w'.log
    → w'.work ≤ w.work + turn.tiles → w'.taken ≡ option_map (λ x. x ++ turn.text) w.taken → TurnsDone (turn ∷ []) w w'
one_turn {turn = turn} {w = w} {w' = w'} a few t = record {
  steps = all_as (sym (append-nil turn.steps)) a;
  tiles = omega (arith, few);
  text = t ∙ ap (λ zs. option_map (λ x. x ++ zs) w.taken) (sym (append-nil turn.text));
}

-- ---- stops

pub stops_here : {stop : Stop} {turn : Turn} (turns : List Turn) {w w' : World} → StopsAt stop turn w w'
    → StopsIn stop (turn ∷ turns) w w'
stops_here {stop = stop} {turn = turn} turns {w = w} at = record {
  before = [];
  turn = turn;
  later = turns;
  parts = refl;
  mid = w;
  done = turns_none w;
  at = at;
}

pub stops_more : {stop : Stop} {xs : List Turn} (ys : List Turn) {w w' : World} → StopsIn stop xs w w'
    → StopsIn stop (xs ++ ys) w w'
stops_more {xs = xs} ys s = record {
  before = s.before;
  turn = s.turn;
  later = s.later ++ ys;
  parts = ap (λ zs. zs ++ ys) s.parts ∙ append_assoc s.before (s.turn ∷ s.later) ys;
  mid = s.mid;
  done = s.done;
  at = s.at;
}

pub stops_on : {stop : Stop} {xs ys : List Turn} {w m w' : World} → TurnsDone xs w m → StopsIn stop ys m w'
    → StopsIn stop (xs ++ ys) w w'
stops_on {xs = xs} {ys = ys} a s = record {
  before = xs ++ s.before;
  turn = s.turn;
  later = s.later;
  parts = ap (λ zs. xs ++ zs) s.parts ∙ sym (append_assoc xs s.before (s.turn ∷ s.later));
  mid = s.mid;
  done = turns_both a s.done;
  at = s.at;
}

-- ---- what a stop leaves: some first changes, some first bytes

in_turn : (stop : Stop) (turn : Turn) (w w' : World) → StopsAt stop turn w w'
    → SomeDone turn.steps w.held w.log w'.held w'.log × FrontTaken w.taken turn.text w'.taken
in_turn Input turn w w' n = (not_yet n.held n.log, front_none turn.text w.taken w'.taken n.taken)
in_turn Store turn w w' s = (s.steps, front_none turn.text w.taken w'.taken s.taken)
in_turn Output turn w w' t = (all_some t.steps, t.front)
in_turn NoMemory turn w w' (inl s) = (s.steps, front_none turn.text w.taken w'.taken s.taken)
in_turn NoMemory turn w w' (inr t) = (all_some t.steps, t.front)

pub some_first : {stop : Stop} {turns : List Turn} {w w' : World} → StopsIn stop turns w w'
    → SomeDone (steps_of turns) w.held w.log w'.held w'.log × FrontTaken w.taken (turns_text turns) w'.taken
some_first {stop = stop} {turns = turns} {w = w} {w' = w'} s =
    let p = in_turn stop s.turn s.mid w' s.at in (
      some_as (sym (ap steps_of s.parts ∙ steps_append s.before (s.turn ∷ s.later)))
          (goes_on s.done.steps (stops (steps_of s.later) p.0)),
      subst (λ text. FrontTaken w.taken text w'.taken)
          (sym (ap turns_text s.parts ∙ text_append s.before (s.turn ∷ s.later)))
          (front_on (turns_text s.before) (s.turn.text ++ turns_text s.later) w.taken s.mid.taken w'.taken s.done.text
          (front_more s.turn.text (turns_text s.later) s.mid.taken w'.taken p.1)),
    )
