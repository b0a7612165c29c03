-- Slots that are compared, and what is found by them.
use Rattle.std.proofs.Common.{◌≡◌, ℕ, Bool, true, ◌&&◌, ◌⊎◌, inl, inr, List, Contains, Some, nat_eq, ◌∙◌, subst, arith}
use Rattle.std.proofs.lemmas.Bool.Decides.{nat_tests}
use Rattle.std.specs.Map.{lookup}
use Rattle.lru.specs.LruCache.{LruCache, lru_cache, promoted, put_entries}
use Rattle.lru.proofs.CallerLemmas.{Contains-promoted, Contains-put_entries, Contains-lookup}
use Rattle.cell_cache.specs.declared.slot.Slot.{Slot}
use Rattle.cell_cache.specs.CachedLaws.{both}

same_nat : (a b : ℕ) → nat_eq a b ≡ true → b ≡ a
same_nat a b e = grind (arith, nat_tests)

abbrev pub same_slot : Slot → Slot → Bool
same_slot a b = nat_eq a.lat b.lat && (nat_eq a.lon b.lon && nat_eq a.level b.level)

pub same_numbers : (a b : Slot) → same_slot a b ≡ true → b ≡ a
same_numbers a b is =
    let lat = both (nat_eq a.lat b.lat) (nat_eq a.lon b.lon && nat_eq a.level b.level) is in
    let lon = both (nat_eq a.lon b.lon) (nat_eq a.level b.level) lat.1 in
    λ i. record { lat = same_nat a.lat b.lat lat.0 i; lon = same_nat a.lon b.lon lon.0 i; level = same_nat a.level b.level lon.1 i }

-- what is found under a slot is held in it
pub found : (test : Slot → Bool) (slot : Slot) (held : List (Slot × List ℕ)) (bytes : List ℕ) → ((other : Slot) → test other ≡ true → other ≡ slot) → lookup test held ≡ Some bytes → Contains held (slot, bytes)
found test slot held bytes exact is =
    let at = Contains-lookup test held bytes is in
    subst (λ s. Contains held (s, bytes)) (exact at.0 at.2) at.1

-- what is held after one more is put was held before, or is that one
pub put : (eq : Slot → Slot → Bool) (cells : LruCache Slot (List ℕ)) (slot named : Slot) (cell : List ℕ) → ((other : Slot) → eq slot other ≡ true → other ≡ slot) → slot ≡ named → (other : Slot) (bytes : List ℕ)
    → Contains (put_entries eq cells slot cell) (other, bytes) → Contains cells.entries (other, bytes) ⊎ ((other ≡ named) × (bytes ≡ cell))
put eq cells slot named cell exact same other bytes there = elim (Contains-put_entries eq cells slot cell (other, bytes) there) [
  | inl before ↦ inl before
  | inr new ↦ inr (elim new.1 [ inl here ↦ here | inr tied ↦ exact other tied.2 ] ∙ same, new.0)
]

-- what is held after a look-up was held before
pub none_else : (test : Slot → Bool) (cells cells' : LruCache Slot (List ℕ)) → cells' ≡ lru_cache (promoted test cells.entries) cells.cap → (slot : Slot) (bytes : List ℕ) → Contains cells'.entries (slot, bytes)
    → Contains cells.entries (slot, bytes)
none_else test cells cells' is slot bytes there =
    Contains-promoted test cells.entries (slot, bytes) (subst (λ (c : LruCache Slot (List ℕ)). Contains c.entries (slot, bytes)) is there)
