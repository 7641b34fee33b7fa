-- What a list of appends leaves in one segment.
use Rattle.std.proofs.Common.{◌≡◌, ℕ, cond, List, [], ◌∷◌, ◌++◌, map, refl, sym, ap, subst, ◌∙◌, append-nil, append_assoc, inl, inr}
use Rattle.std.specs.Prelude.{◌≢◌, ◌⊎◌, Option, Some, None, IsSome, unwrap_or, Contains, if◌then◌else◌}
use Rattle.std.specs.List.{concat}
use Rattle.std.specs.FinMap.{empty, get}
use Rattle.std.specs.Str.{bytes_eq}
use Rattle.aff_model.specs.Held.{Held, bytes_of, appended}
use Rattle.aff_model.proofs.HeldLaws.{bytes_eq_same, bytes_eq_other, get-appended, get-appended_other, bytes_of-appended, bytes_of-appended_other, get_of_empty}
use Rattle.aff_spec.specs.Appends.{Append, applied, appends_to}
use Rattle.aff_spec.proofs.Members.{Contains-first, Contains-later, Contains-cases, Contains-none, alike}

-- the bytes that some appends add to a segment
abbrev pub own : List ℕ → List Append → List ℕ
own name [] = []
own name (a ∷ appends) = (if bytes_eq a.0 name then a.1 else []) ++ own name appends

pub own-append : (name : List ℕ) (xs ys : List Append) → own name (xs ++ ys) ≡ own name xs ++ own name ys
own-append name [] ys = refl
own-append name (a ∷ xs) ys =
    ap (λ v. (if bytes_eq a.0 name then a.1 else []) ++ v) (own-append name xs ys) ∙ sym (append_assoc (if bytes_eq a.0 name then a.1 else []) (own name xs) (own name ys))

-- an append to the segment, and one to another
pub own-same : (name bytes : List ℕ) (appends : List Append) → own name ((name, bytes) ∷ appends) ≡ bytes ++ own name appends
own-same name bytes appends = ap (λ t. cond t bytes [] ++ own name appends) (bytes_eq_same name)

pub own-other : (name other bytes : List ℕ) (appends : List Append) → other ≢ name → own name ((other, bytes) ∷ appends) ≡ own name appends
own-other name other bytes appends apart = ap (λ t. cond t bytes [] ++ own name appends) (bytes_eq_other other name apart)

pub own-pieces : (name : List ℕ) (pieces : List (List ℕ)) → own name (appends_to name pieces) ≡ concat pieces
own-pieces name [] = refl
own-pieces name (p ∷ pieces) = own-same name p (appends_to name pieces) ∙ ap (λ v. p ++ v) (own-pieces name pieces)

pub own-other_pieces : (name other : List ℕ) (pieces : List (List ℕ)) → other ≢ name → own name (appends_to other pieces) ≡ []
own-other_pieces name other [] apart = refl
own-other_pieces name other (p ∷ pieces) apart = own-other name other p (appends_to other pieces) apart ∙ own-other_pieces name other pieces apart

-- the segment's bytes after the appends
added : (held : Held) (name other bytes : List ℕ) → bytes_of (appended held other bytes) name ≡ bytes_of held name ++ (if bytes_eq other name then bytes else [])
added held name other bytes =
    elim (alike other name) [
      | inl same ↦
          subst (λ v. bytes_of (appended held other bytes) v ≡ bytes_of held v ++ (if bytes_eq other v then bytes else [])) same
          (bytes_of-appended held other bytes ∙ ap (λ t. bytes_of held other ++ cond t bytes []) (sym (bytes_eq_same other)))
      | inr apart ↦
          bytes_of-appended_other held other bytes name (λ e. apart (sym e)) ∙ sym (append-nil (bytes_of held name)) ∙ ap (λ t. bytes_of held name ++ cond t bytes []) (sym (bytes_eq_other other name apart))
    ]

pub bytes_of-applied : (held : Held) (name : List ℕ) (appends : List Append) → bytes_of (applied held appends) name ≡ bytes_of held name ++ own name appends
bytes_of-applied held name [] = sym (append-nil (bytes_of held name))
bytes_of-applied held name (a ∷ appends) =
    bytes_of-applied (appended held a.0 a.1) name appends
    ∙ ap (λ v. v ++ own name appends) (added held name a.0 a.1)
    ∙ append_assoc (bytes_of held name) (if bytes_eq a.0 name then a.1 else []) (own name appends)

pub bytes_of-made : (name : List ℕ) (appends : List Append) → bytes_of (applied empty appends) name ≡ own name appends
bytes_of-made name appends = bytes_of-applied empty name appends ∙ ap (λ o. unwrap_or o [] ++ own name appends) (get_of_empty name)

-- the names of the segments that some appends make
abbrev pub names_of : List Append → List (List ℕ)
names_of appends = map (λ a. a.0) appends

some_is : (o : Option (List ℕ)) (bytes : List ℕ) → o ≡ Some bytes → IsSome o
some_is o bytes e = subst IsSome (sym e) refl

stays : (held : Held) (name other bytes : List ℕ) → IsSome (get held name) → IsSome (get (appended held other bytes) name)
stays held name other bytes there =
    elim (alike other name) [
      | inl same ↦ subst (λ v. IsSome (get (appended held other bytes) v)) same (some_is _ _ (get-appended held other bytes))
      | inr apart ↦ subst IsSome (sym (get-appended_other held other bytes name (λ e. apart (sym e)))) there
    ]

stay : (held : Held) (name : List ℕ) (appends : List Append) → IsSome (get held name) → IsSome (get (applied held appends) name)
stay held name [] there = there
stay held name (a ∷ appends) there = stay (appended held a.0 a.1) name appends (stays held name a.0 a.1 there)

pub there-applied : (held : Held) (name : List ℕ) (appends : List Append) → Contains (names_of appends) name → IsSome (get (applied held appends) name)
there-applied held name [] c = absurd (Contains-none name c)
there-applied held name (a ∷ appends) c =
    elim (Contains-cases a.0 (names_of appends) name c) [
      | inl first ↦ stay (appended held a.0 a.1) name appends (subst (λ v. IsSome (get (appended held a.0 a.1) v)) first (some_is _ _ (get-appended held a.0 a.1)))
      | inr later ↦ there-applied (appended held a.0 a.1) name appends later
    ]

pub named-applied : (held : Held) (name : List ℕ) (appends : List Append) → IsSome (get (applied held appends) name) → IsSome (get held name) ⊎ Contains (names_of appends) name
named-applied held name [] there = inl there
named-applied held name (a ∷ appends) there =
    elim (named-applied (appended held a.0 a.1) name appends there) [
      | inr later ↦ inr (Contains-later a.0 (names_of appends) name later)
      | inl here ↦ elim (alike a.0 name) [
        | inl same ↦ inr (subst (Contains (names_of (a ∷ appends))) same (Contains-first a.0 (names_of appends)))
        | inr apart ↦ inl (subst IsSome (get-appended_other held a.0 a.1 name (λ e. apart (sym e))) here)
      ]
    ]

-- a folder that was made by some appends has their segments and no other
pub made_segments : (appends : List Append) (name : List ℕ) → (IsSome (get (applied empty appends) name) → Contains (names_of appends) name) × (Contains (names_of appends) name → IsSome (get (applied empty appends) name))
made_segments appends name = (
  λ there. elim (named-applied empty name appends there) [ inl none ↦ absurd (nothing (get empty name) (get_of_empty name) none) | inr named ↦ named ],
  there-applied empty name appends,
)
  where
    nothing : (o : Option (List ℕ)) → o ≡ None → IsSome o → ⊥
    nothing o e h = let no : IsSome {T = List ℕ} None = subst IsSome e h in cc no
