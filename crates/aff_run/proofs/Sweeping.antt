-- What a put leaves of the published extents.
use Rattle.std.proofs.Common.{◌≡◌, ℕ, List, [], ◌∷◌, ◌++◌, map, refl, sym, ap, subst, ◌∙◌}
use Rattle.std.specs.Prelude.{Bool, true, false, Contains}
use Rattle.std.proofs.lemmas.List.{map-append}
use Rattle.std.proofs.lemmas.List.Elements.{Contains-append_left, Contains-push}
use Rattle.aff_model.specs.History.{Part}
use Rattle.aff_extent.specs.Drafts.{Drafted}
use Rattle.aff_store.specs.declared.claim.Claim.{Claim}
use Rattle.aff_claim.specs.declared.word.Word.{Word}
use Rattle.aff_claim.specs.declared.word.Word.TheVariants.{Claimed}
use Rattle.aff_claim.specs.Words.{IsPublished}
use Rattle.aff_book.specs.declared.put.Put.{Put}
use Rattle.aff_book.specs.declared.put.Put.TheVariants.{Done, NotYours, Failed, Stopped, Memory}
use Rattle.aff_book.specs.Answers.{Answered, LacksMemory}
use Rattle.aff_book.specs.Pages.{Pages}

abbrev pub extents : {R : Type 0} → List (Part R) → List ℕ
extents pieces = map (λ p. p.extent) pieces

pushed : {R : Type 0} (ps qs : List (Part R)) (p : Part R) → qs ≡ ps ++ p ∷ [] → extents qs ≡ extents ps ++ p.extent ∷ []
pushed ps qs p is = ap extents is ∙ map-append (λ q. q.extent) ps (p ∷ [])

-- a piece more: its extent is published, and so are those before
pub has_pushed : {R : Type 0} (ps qs : List (Part R)) (p : Part R) (k : ℕ) → qs ≡ ps ++ p ∷ [] → p.extent ≡ k → Contains (extents qs) k
has_pushed ps qs p k is same = subst (λ l. Contains l k) (sym (pushed ps qs p is)) (subst (λ n. Contains (extents ps ++ p.extent ∷ []) n) same (Contains-push (extents ps) p.extent))

pub stay_pushed : {R : Type 0} (ps qs : List (Part R)) (p : Part R) (k : ℕ) → qs ≡ ps ++ p ∷ [] → Contains (extents ps) k → Contains (extents qs) k
stay_pushed ps qs p k is has = subst (λ l. Contains l k) (sym (pushed ps qs p is)) (Contains-append_left (extents ps) (p.extent ∷ []) k has)

lacking : {R : Type 0} (b : Bool) (claim : Claim) (old now : Pages R) → LacksMemory b claim old now → now.pieces ≡ old.pieces
lacking true claim old now is = ap (λ (x : Pages _). x.pieces) is
lacking false claim old now is = is.0.pieces

-- an answer that is not Done adds none
pub none_added : {R : Type 0} (tells : Bool) (told : R → List ℕ) (claim : Claim) (d : Drafted) (bytes : List ℕ) (old now : Pages R) (answer : Put) → ((front : ℕ) → answer ≡ Done front → ⊥)
    → Answered tells told claim d bytes old now answer → now.pieces ≡ old.pieces
none_added tells told claim d bytes old now Stopped other a = ap (λ (x : Pages _). x.pieces) a.1
none_added tells told claim d bytes old now Memory other a = lacking old.memory claim old now a.1
none_added tells told claim d bytes old now (NotYours word) other a = ap (λ (x : Pages _). x.pieces) a.2
none_added tells told claim d bytes old now Failed other a = a.1.pieces
none_added tells told claim d bytes old now (Done front) other a = absurd (other front refl)

-- an extent with a claim is not published
pub not_out : (out : List ℕ) (e k : ℕ) (word : Word) → (Contains out e → IsPublished word) → word ≡ Claimed k → Contains out e → ⊥
not_out out e k word told is has = subst IsPublished is (told has)
