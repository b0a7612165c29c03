-- The reply to what is asked of a database is not empty, and nothing else is changed.
use Rattle.std.proofs.Common.{◌≡◌, ◌⊎◌, ℕ, ℤ, ◌<◌, ◌≤◌, Bool, true, false, List, [], ◌∷◌, length, Option, Some, None, Result, Ok, Err, IfErr, IfOk, refl, sym, subst, inl, inr, arith}
use Rattle.std.specs.Prelude.{if◌then◌else◌}
use Rattle.std.specs.FinMap.{get}
use Rattle.terrain_base.specs.declared.name.Key.TheVariants.{Terrain, Note}
use Rattle.terrain_base.specs.declared.tile.TileId.{TileId}
use Rattle.terrain_base.specs.Step.{Files}
use Rattle.terrain_base.proofs.Runs.{not_yet}
use Rattle.mesh_codec.specs.declared.refusal.TileRefusal.{TileRefusal}
use Rattle.mesh_codec.specs.Refusal.{tile_refusal_of}
use Rattle.cell_mosaic.specs.Summaries.{summaries_of}
use Rattle.availability.specs.Existence.{exists_of}
use Rattle.tile_deps.specs.Squares.{squares_of, touching}
use Rattle.heightmap_out.specs.Tile.{heightmap_of}
use Rattle.db_heightmap.proofs.Lengths.{has_bytes}
use Rattle.report_text.specs.TileRefusal.{tile_refusal_text_of}
use Rattle.top_words.specs.declared.command.Query.{Query}
use Rattle.top_words.specs.declared.command.Query.TheVariants.{List as ListCells, Inspect, Deps, Heightmap, Surface}
use Rattle.database.specs.declared.answer.EngineAnswer.TheVariants as answer
use Rattle.database.specs.State.{State, tile_exists}
use Rattle.db_report.specs.Listing.{deps_text_of}
use Rattle.top_reply.specs.declared.stop.Stop.{Stop}
use Rattle.top_reply.specs.declared.stop.Stop.TheVariants as stop
use Rattle.terrain_base.specs.Library.{LibraryFiles}
use Rattle.top_words.specs.Words.{Ask}
use Rattle.top_reply.specs.Course.{Course, World, StopsIn, said, text_turn}
use Rattle.top_reply.specs.Database.{IsAsked}
use Rattle.top_reply.specs.Query.{IsInspected, IsReplyTo, IsShownBy, deps_reply, heightmap_reply, shown_by}
use Rattle.top_reply.specs.Reply.{Reply, cause_of, refused_reply, text_reply}
use Rattle.terrain_top.specs.declared.answer.Answer.{Answer}
use Rattle.terrain_top.specs.Comes.{Comes}
use Rattle.terrain_top.specs.Says.{Says}
use Rattle.terrain_top.specs.Told.{HasOpened, HasReply}
use Rattle.terrain_top.specs.Turns.{TurnStops}
use Rattle.terrain_top.proofs.Coming.{comes_as, in_turn, said_comes}
use Rattle.terrain_top.proofs.EditsGo.{some_cause}
use Rattle.terrain_top.proofs.Surfaces.{some_asked}

-- ---- it is not empty

some_shown : (tile : TileId) (terrain note : List ℕ) (least greatest : Option ℤ) (refusal : Option TileRefusal)
    → 0 < length (shown_by tile terrain note least greatest refusal).text
some_shown tile terrain note least greatest None = omega arith
some_shown tile terrain note least greatest (Some refusal) = some_cause (tile_refusal_text_of refusal)

as_reply : (a b : Reply) → a ≡ b → 0 < length b.text → 0 < length a.text
as_reply a b e h = subst (λ r. 0 < length r.text) (sym e) h

some_held : (tile : TileId) (terrain note : Option (List ℕ)) (reply : Reply) → IsShownBy tile terrain note reply
    → 0 < length reply.text
some_held tile None _ reply is =
    as_reply reply (refused_reply (cause_of (answer.TileLost (Terrain tile)))) is (some_cause (cause_of (answer.TileLost (Terrain tile))))
some_held tile (Some terrain) None reply is =
    as_reply reply (refused_reply (cause_of (answer.TileLost (Note tile)))) is (some_cause (cause_of (answer.TileLost (Note tile))))
some_held tile (Some terrain) (Some note) reply is =
    as_reply reply (shown_by tile terrain note is.least is.greatest (tile_refusal_of terrain)) is.reply_is
    (some_shown tile terrain note is.least is.greatest (tile_refusal_of terrain))

some_inspected : (exists : Bool) (tile : TileId) (files : Files) (reply : Reply) → IsInspected exists tile files reply
    → 0 < length reply.text
some_inspected false tile files reply is =
    as_reply reply (refused_reply (cause_of (answer.NoTile tile))) is (some_cause (cause_of (answer.NoTile tile)))
some_inspected true tile files reply is = some_held tile (get files (Terrain tile)) (get files (Note tile)) reply is

some_deps : (exists : Bool) (cause text : List ℕ) → 0 < length text
    → 0 < length (if exists then text_reply text else refused_reply cause).text
some_deps true cause text some = some
some_deps false cause text some = some_cause cause

some_reply : (query : Query) (s : State) (files : Files) (reply : Reply) → IsReplyTo query s files reply
    → 0 < length reply.text
some_reply ListCells s files reply is = subst (λ r. 0 < length r.text) (sym is) (omega arith)
some_reply (Inspect tile) s files reply is = some_inspected (tile_exists s tile) tile files reply is
some_reply (Deps tile) s files reply is =
    as_reply reply (deps_reply tile s.params.cap (summaries_of s.cells)) is
    (some_deps (exists_of s.params.cap (summaries_of s.cells) tile) (cause_of (answer.NoTile tile))
    (deps_text_of tile (touching tile (squares_of (summaries_of s.cells)))) (omega arith))
some_reply (Heightmap tile) s files reply is =
    as_reply reply (heightmap_reply tile s) is
    (some_deps (tile_exists s tile) (cause_of (answer.NoTile tile)) (heightmap_of s.params s.cells tile)
    (has_bytes s.params s.cells tile))
some_reply (Surface tile question) s files reply is = some_asked (tile_exists s tile) tile question files reply is

-- ---- a question changes nothing

quiet_stop : (e : Stop) (reply : Reply) (w w' : World) → (e ≡ stop.Store) ⊎ (e ≡ stop.NoMemory) → w'.held ≡ w.held
    → w'.log ≡ w.log → w'.taken ≡ w.taken → StopsIn e (text_turn reply.text ∷ []) w w'
quiet_stop e reply w w' (inl p) held log taken = in_turn (text_turn reply.text) [] w w' e
    (subst (λ x. TurnStops x [] w.held w'.held w.log w'.log) (sym p) (not_yet held log)) taken
quiet_stop e reply w w' (inr p) held log taken = in_turn (text_turn reply.text) [] w w' e
    (subst (λ x. TurnStops x [] w.held w'.held w.log w'.log) (sym p) (not_yet held log)) taken

stopped : (reply : Reply) (w w' : World) (result : Result Answer Stop)
    → IfErr result (λ e. (e ≡ stop.Store) ⊎ (e ≡ stop.NoMemory)) → w'.held ≡ w.held → w'.log ≡ w.log → w'.taken ≡ w.taken
    → IfErr result (λ e. StopsIn e (text_turn reply.text ∷ []) w w')
stopped reply w w' (Ok a) only held log taken = tt
stopped reply w w' (Err e) only held log taken = quiet_stop e reply w w' only held log taken

pub asked_comes : (query : Query) (s : State) (files : Files) (course : Course) (w w' : World) (result : Result Answer Stop)
    → IsAsked query s files course → ((reply : Reply) → IsReplyTo query s files reply → IfOk result (Says reply))
    → IfErr result (λ e. (e ≡ stop.Store) ⊎ (e ≡ stop.NoMemory)) → w'.held ≡ w.held → w'.log ≡ w.log
    → w'.taken ≡ w.taken → w'.work ≤ w.work → Comes course w w' result
asked_comes query s files course w w' result is says only held log taken few =
    comes_as _ course w w' result (sym is.course_is)
    (said_comes is.reply w w' result (says is.reply is.is) (some_reply query s files is.reply is.is)
    held log taken few (stopped is.reply w w' result only held log taken))

pub asked_has : (query : Query) (s : State) (files : Files) (library : LibraryFiles) (result : Result Answer Stop)
    → IfOk result (λ a. HasReply query s files) → IfOk result (λ a. HasOpened (Ask query) library s files)
asked_has query s files library (Ok a) has =
    (said has.0, record { reply = has.0; is = has.1; course_is = refl })
asked_has query s files library (Err e) has = tt
