-- An existing tile as a heightmap.
use Rattle.std.proofs.Common.{◌≡◌, ◌↔◌, Bool, true, false, List, ℕ, Option, Result, Ok, Err, IfOk, refl, sym, ap, subst, ◌∙◌}
use Rattle.std.specs.Prelude.{if◌then◌else◌}
use Rattle.terrain_base.specs.declared.tile.TileId.{TileId}
use Rattle.terrain_base.specs.Step.{Files}
use Rattle.availability.specs.Existence.{exists_of}
use Rattle.database.specs.declared.answer.EngineAnswer.{EngineAnswer}
use Rattle.database.specs.declared.answer.EngineAnswer.TheVariants.{NoTile}
use Rattle.database.specs.Answer.{IsStop}
use Rattle.database.specs.State.{State, tile_exists}
use Rattle.db_engine.specs.Holding.{HoldsState}
use Rattle.db_engine.specs.Opened.{Contents}
use Rattle.heightmap_out.specs.Tile.{heightmap_of}
use Rattle.top_reply.specs.declared.stop.Stop.{Stop}
use Rattle.top_reply.specs.Query.{heightmap_reply}
use Rattle.top_reply.specs.Reply.{Reply, cause_of, refused_reply, text_reply}
use Rattle.terrain_top.specs.declared.answer.Answer.{Answer}
use Rattle.terrain_top.specs.declared.answer.Ending.TheVariants.{Done}
use Rattle.terrain_top.specs.Says.{IsTold, Says, status_at}
use Rattle.terrain_top.proofs.EditsGo.{stop_untold, told_says}

chosen : (there : Bool) (shown refused : Reply) (a : Answer) → there ≡ true → Says shown a
    → Says (if there then shown else refused) a
chosen true shown refused a is says = says
chosen false shown refused a is says = absurd (cc)

not_chosen : (there : Bool) (shown refused : Reply) (a : Answer) → there ≡ false → Says refused a
    → Says (if there then shown else refused) a
not_chosen true shown refused a is says = absurd (cc)
not_chosen false shown refused a is says = says

-- an answer in place of a value
abbrev pub in_place : (T : Type 0) → EngineAnswer → Result T EngineAnswer
in_place T refusal = Err refusal

one_answer : (T : Type 0) (refusal other : EngineAnswer) → in_place T refusal ≡ in_place T other → refusal ≡ other
one_answer T refusal other e = cc

module _ (s : State) (tile : TileId) (held : Option Files) (o : Contents) (h : HoldsState held o s) where
  there_is : tile_exists s tile ≡ exists_of o.params.cap o.rows tile
  there_is = sym (λ i. exists_of (h.params_is i).cap (h.rows_is i) tile)

  pub given : (a : Answer) → exists_of o.params.cap o.rows tile ≡ true → a.ending ≡ Done
      → a.text.items ≡ heightmap_of s.params s.cells tile → Says (heightmap_reply tile s) a
  given a exists ends text =
      chosen (tile_exists s tile) _ _ a (there_is ∙ exists) (record { status = ap status_at ends; text = text })

  by_there : (there : Bool) (refusal : EngineAnswer) (a : Answer) → exists_of o.params.cap o.rows tile ≡ there
      → (exists_of o.params.cap o.rows tile ≡ false → refusal ≡ NoTile tile)
      → (exists_of o.params.cap o.rows tile ≡ true → IsStop refusal) → IsTold refusal a → Says (heightmap_reply tile s) a
  by_there true refusal a is none stops told = absurd (stop_untold refusal a (stops is) told)
  by_there false refusal a is none stops told =
      not_chosen (tile_exists s tile) _ _ a (there_is ∙ is)
      (subst (λ x. Says (refused_reply (cause_of x)) a) (none is) (told_says refusal a told))

  on_told : (refusal : EngineAnswer) (result : Result Answer Stop)
      → (exists_of o.params.cap o.rows tile ≡ false → refusal ≡ NoTile tile)
      → (exists_of o.params.cap o.rows tile ≡ true → IsStop refusal) → IfOk result (IsTold refusal)
      → IfOk result (Says (heightmap_reply tile s))
  on_told refusal (Ok a) none stops told = by_there (exists_of o.params.cap o.rows tile) refusal a refl none stops told
  on_told refusal (Err e) none stops told = tt

  pub not_given : {T : Type 0} (refusal : EngineAnswer) (result : Result Answer Stop)
      → ((in_place T refusal ≡ in_place T (NoTile tile)) ↔ (exists_of o.params.cap o.rows tile ≡ false))
      → (exists_of o.params.cap o.rows tile ≡ true → IsStop refusal) → IfOk result (IsTold refusal)
      → IfOk result (Says (heightmap_reply tile s))
  not_given {T = T} refusal result none stops told =
      on_told refusal result (λ is. one_answer T refusal (NoTile tile) (none.1 is)) stops told
