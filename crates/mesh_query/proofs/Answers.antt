-- Bytes have one cause of refusal at most.
use Rattle.std.proofs.Common.{◌≡◌, ◌⊎◌, inl, inr, ℕ, refl, sym, subst, ap, List}
use Rattle.std.specs.Prelude.{All}
use Rattle.common_laws.proofs.Orders.{same_from_neither_below}
use Rattle.mesh_codec.specs.declared.codes.Codes.{Codes}
use Rattle.mesh_codec.specs.Tile.{header_in, vertex_list, mesh_in}
use Rattle.mesh_check.specs.declared.verdict.Finding.{Finding}
use Rattle.mesh_check.specs.declared.verdict.Verdict.{Verdict}
use Rattle.mesh_check.specs.declared.verdict.Verdict.TheVariants.{Good, Found}
use Rattle.mesh_check.specs.CodeMesh.{IsVerdict}
use Rattle.mesh_query.specs.declared.refusal.QueryRefusal.{QueryRefusal}
use Rattle.mesh_query.specs.declared.refusal.QueryRefusal.TheVariants.{NotWhole, Unsound, NoMemory}
use Rattle.mesh_query.specs.Field.{MetreMesh}
use Rattle.mesh_query.specs.Metres.{IsWhole, IsFirstNotWhole}
use Rattle.mesh_query.specs.Answer.{IsFieldOf, IsCause, OneAnswerLaw}
use Rattle.mesh_query.proofs.Vertices.{each_whole}
use Rattle.mesh_plane.proofs.ListWords.{all_from}

no_codes : Codes
no_codes = record { u = 0; v = 0; height = 0 }

-- all are whole, and one is not
not_both : (bytes : List ℕ) (k : ℕ) → All (IsWhole (header_in bytes)) (vertex_list bytes) → IsFirstNotWhole bytes k → ⊥
not_both bytes k a h = h.not_whole no_codes (a k no_codes h.in_list)

one_number : (bytes : List ℕ) (j k : ℕ) → IsFirstNotWhole bytes j → IsFirstNotWhole bytes k → j ≡ k
one_number bytes j k h i =
    same_from_neither_below j k (λ l. h.not_whole no_codes (i.first j no_codes l)) (λ l. i.not_whole no_codes (h.first k no_codes l))

one_finding : (bytes : List ℕ) (f g : Finding) → IsVerdict (mesh_in bytes) (Found f) → IsVerdict (mesh_in bytes) (Found g)
    → Found g ≡ Found f
one_finding bytes f g h i = sym ((h.found g).1 ((i.found g).0 refl))

abbrev HasFinding : Verdict → Type 0
HasFinding Good = ⊥
HasFinding (Found f) = Unit {0}

abbrev finding_or : Finding → Verdict → Finding
finding_or f Good = f
finding_or f (Found g) = g

one : (bytes : List ℕ) (refusal other : QueryRefusal) → IsCause bytes refusal → IsCause bytes other
    → (refusal ≡ NoMemory) ⊎ ((other ≡ NoMemory) ⊎ (refusal ≡ other))
one bytes NoMemory other h i = inl refl
one bytes (NotWhole j) NoMemory h i = inr (inl refl)
one bytes (NotWhole j) (NotWhole k) h i = inr (inr (ap (λ n. NotWhole n) (one_number bytes j k h i)))
one bytes (NotWhole j) (Unsound g) h i = absurd (not_both bytes j i.0 h)
one bytes (Unsound f) NoMemory h i = inr (inl refl)
one bytes (Unsound f) (NotWhole k) h i = absurd (not_both bytes k h.0 i)
one bytes (Unsound f) (Unsound g) h i = inr (inr (ap (λ v. Unsound (finding_or f v)) (sym (one_finding bytes f g h.1 i.1))))

good_not_found : (bytes : List ℕ) (f : Finding) → IsVerdict (mesh_in bytes) Good → IsVerdict (mesh_in bytes) (Found f) → ⊥
good_not_found bytes f h i = clash ((i.good).1 ((h.good).0 refl))
  where
    clash : Found f ≡ Good → ⊥
    clash e = subst HasFinding e tt

none : (bytes : List ℕ) (field : MetreMesh) (refusal : QueryRefusal) → IsFieldOf bytes field → IsCause bytes refusal
    → refusal ≡ NoMemory
none bytes field NoMemory h i = refl
none bytes field (NotWhole k) h i =
    absurd (not_both bytes k (all_from (IsWhole (header_in bytes)) (vertex_list bytes)
    (each_whole (header_in bytes) (vertex_list bytes) field.corners h.corners)) i)
none bytes field (Unsound f) h i = absurd (good_not_found bytes f h.good i.1)

pub one_answer_law : OneAnswerLaw
one_answer_law = record { one = one; none = none }
