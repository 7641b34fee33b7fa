-- A reading is what the grammar says.
use Rattle.std.proofs.Common.{◌≡◌, ◌≢◌, ◌⊎◌, ◌||◌, ℕ, List, [], Result, Ok, Err, Bool, true, false, cond, refl, sym, ap, subst, ◌∙◌, inl, inr}
use Rattle.std.specs.Prelude.{IfOk, IfErr, IsOkUnless, codes, is_some}
use Rattle.std.specs.Str.{chars, is_utf8, IsUtf8, bytes_eq}
use Rattle.std.specs.Str.Lossy.{utf8_valid_len}
use Rattle.std.proofs.lemmas.Str.{IsUtf8-from_is_utf8, is_utf8-from_IsUtf8}
use Rattle.aff_turtle.specs.declared.error.TurtleError.{TurtleError}
use Rattle.aff_turtle.specs.declared.error.TurtleError.TheVariants.{Syntax, NoPrefix, Unsupported, Utf8, Memory}
use Rattle.aff_turtle.specs.Tokens.{Token, Placed, Name, Escaped, Colons, At, Word, tokens}
use Rattle.aff_turtle.specs.Triples.{Fact}
use Rattle.aff_turtle.specs.Prefixes.{Prefix, declared}
use Rattle.aff_turtle.specs.Refusals.{is_word, refusal}
use Rattle.aff_turtle.specs.Machine.{Statement, triples, Outcome, Gives, Refuses, Breaks}
use Rattle.aff_turtle.specs.Reading.{IsTurtle, declares, IsStopped, IsRefused}
use Rattle.aff_turtle.specs.Outcomes.{reading, Fails, Matches}
use Rattle.aff_turtle.proofs.Complete.{document_read}
use Rattle.aff_turtle.proofs.Sound.{document_found}
use Rattle.aff_turtle.proofs.Statements.{reads_text, reads_no_text}
use Rattle.aff_turtle.proofs.Refusals.{refused, is_refused, never_breaks}

-- ---- what is in the grammar

chosen : (b : Bool) (r : Outcome) (e : TurtleError) (ts : List Fact) → cond b r (Refuses e) ≡ Gives ts → (b ≡ true) × (r ≡ Gives ts)
chosen true r e ts h = (refl, h)
chosen false r e ts h = absurd cc

pub given : (bytes : List ℕ) (ts : List Fact) → reading bytes ≡ Gives ts → IsTurtle bytes ts
unfolding reading
given bytes ts h =
    let k = chosen (is_utf8 bytes) (triples [] Statement (tokens 1 0 (chars bytes))) (Utf8 (utf8_valid_len bytes)) ts h in
    record { text = IsUtf8-from_is_utf8 bytes k.0; document = document_found [] (tokens 1 0 (chars bytes)) ts k.1 }

pub gives : (bytes : List ℕ) (ts : List Fact) → IsTurtle bytes ts → reading bytes ≡ Gives ts
gives bytes ts h = reads_text bytes h.text ∙ document_read [] (tokens 1 0 (chars bytes)) ts h.document

-- ---- what is refused

not_given : (b : Bool) (r : Outcome) (e why : TurtleError) → cond b r (Refuses e) ≡ Refuses why → ((b ≡ true) × (r ≡ Refuses why)) ⊎ ((b ≡ false) × (e ≡ why))
not_given true r e why h = inl (refl, h)
not_given false r e why h = inr (refl, cc)

opposite : (b : Bool) → b ≡ true → b ≡ false → ⊥
opposite true h k = cc
opposite false h k = cc

why_refused : (bytes : List ℕ) (e : TurtleError) → reading bytes ≡ Refuses e → (IsUtf8 bytes × IsStopped (tokens 1 0 (chars bytes)) e) ⊎ (¬ (IsUtf8 bytes) × (Utf8 (utf8_valid_len bytes) ≡ e))
unfolding reading
why_refused bytes e h = elim (not_given (is_utf8 bytes) (triples [] Statement (tokens 1 0 (chars bytes))) (Utf8 (utf8_valid_len bytes)) e h) [
  | inl k ↦ inl (IsUtf8-from_is_utf8 bytes k.0, refused (tokens 1 0 (chars bytes)) e k.1)
  | inr k ↦ inr (λ u. absurd (opposite (is_utf8 bytes) (is_utf8-from_IsUtf8 bytes u) k.0), k.1)
]

-- a token is refused by its line
abbrev IsOfLine : TurtleError → Type 0
IsOfLine (Utf8 at) = ⊥
IsOfLine Memory = ⊥
IsOfLine _ = Unit {0}

either_of_line : (b : Bool) (e f : TurtleError) → IsOfLine e → IsOfLine f → IsOfLine (cond b e f)
either_of_line true e f h k = h
either_of_line false e f h k = k

of_line : (ps : List Prefix) (line : ℕ) (token : Token) → IsOfLine (refusal ps line token)
of_line ps line (Name p l) = either_of_line (is_some (declared ps p)) (Syntax line) (NoPrefix line) tt tt
of_line ps line (Colons p) = either_of_line (is_some (declared ps p)) (Syntax line) (NoPrefix line) tt tt
of_line ps line (Escaped p) = either_of_line (is_some (declared ps p)) (Unsupported line) (NoPrefix line) tt tt
of_line ps line (At word) = either_of_line (bytes_eq word (codes "base")) (Unsupported line) (Syntax line) tt tt
of_line ps line (Word word) = either_of_line (is_word (codes "prefix") word || is_word (codes "base") word) (Unsupported line) (Syntax line) tt tt
of_line ps line _ = tt

not_of_line : (e f : TurtleError) → e ≡ f → IsOfLine f → IsOfLine e
not_of_line e f h k = subst IsOfLine (sym h) k

stopped_of_line : (ts : List Placed) (e : TurtleError) → IsStopped ts e → IsOfLine e
stopped_of_line ts e s = not_of_line e (refusal (declares [] s.front) s.bad.line s.bad.token) s.reason (of_line (declares [] s.front) s.bad.line s.bad.token)

pub refuses : (bytes : List ℕ) (e : TurtleError) → reading bytes ≡ Refuses e → IsRefused bytes e
refuses bytes Memory h = elim (why_refused bytes Memory h) [ inl k ↦ stopped_of_line (tokens 1 0 (chars bytes)) Memory k.1 | inr k ↦ absurd cc ]
refuses bytes (Utf8 at) h = elim (why_refused bytes (Utf8 at) h) [ inl k ↦ absurd (stopped_of_line (tokens 1 0 (chars bytes)) (Utf8 at) k.1) | inr k ↦ (k.0, cc) ]
refuses bytes (Syntax n) h = elim (why_refused bytes (Syntax n) h) [ inl k ↦ k | inr k ↦ absurd cc ]
refuses bytes (NoPrefix n) h = elim (why_refused bytes (NoPrefix n) h) [ inl k ↦ k | inr k ↦ absurd cc ]
refuses bytes (Unsupported n) h = elim (why_refused bytes (Unsupported n) h) [ inl k ↦ k | inr k ↦ absurd cc ]

pub is_why : (bytes : List ℕ) (e : TurtleError) → IsRefused bytes e → reading bytes ≡ Refuses e
is_why bytes Memory h = absurd h
is_why bytes (Utf8 at) h = reads_no_text bytes at h.0 h.1
is_why bytes (Syntax n) h = reads_text bytes h.0 ∙ is_refused (tokens 1 0 (chars bytes)) (Syntax n) h.1
is_why bytes (NoPrefix n) h = reads_text bytes h.0 ∙ is_refused (tokens 1 0 (chars bytes)) (NoPrefix n) h.1
is_why bytes (Unsupported n) h = reads_text bytes h.0 ∙ is_refused (tokens 1 0 (chars bytes)) (Unsupported n) h.1

unbroken : (b : Bool) (r : Outcome) (e : TurtleError) → cond b r (Refuses e) ≡ Breaks → r ≡ Breaks
unbroken true r e h = h
unbroken false r e h = absurd cc

pub never_broken : (bytes : List ℕ) → reading bytes ≡ Breaks → ⊥
unfolding reading
never_broken bytes h = never_breaks (chars bytes) (unbroken (is_utf8 bytes) (triples [] Statement (tokens 1 0 (chars bytes))) (Utf8 (utf8_valid_len bytes)) h)

-- ---- what was returned

pub is_found : {X : Type 0} (view : X → List Fact) (bytes : List ℕ) (r : Result X TurtleError) → Matches view r (reading bytes) → IfOk r (λ found. IsTurtle bytes (view found))
is_found view bytes (Ok found) h = given bytes (view found) h
is_found view bytes (Err e) h = tt

fails_given : (e : TurtleError) (outcome : Outcome) (ts : List Fact) → Fails e outcome → outcome ≡ Gives ts → e ≡ Memory
fails_given Memory outcome ts h k = refl
fails_given (Syntax n) outcome ts h k = let c : Gives ts ≡ Refuses (Syntax n) = sym k ∙ h in absurd cc
fails_given (NoPrefix n) outcome ts h k = let c : Gives ts ≡ Refuses (NoPrefix n) = sym k ∙ h in absurd cc
fails_given (Unsupported n) outcome ts h k = let c : Gives ts ≡ Refuses (Unsupported n) = sym k ∙ h in absurd cc
fails_given (Utf8 n) outcome ts h k = let c : Gives ts ≡ Refuses (Utf8 n) = sym k ∙ h in absurd cc

pub is_taken : {X : Type 0} (view : X → List Fact) (bytes : List ℕ) (ts : List Fact) (r : Result X TurtleError) → Matches view r (reading bytes) → IsTurtle bytes ts → IsOkUnless r Memory
is_taken view bytes ts (Ok found) h t = tt
is_taken view bytes ts (Err e) h t = fails_given e (reading bytes) ts h (gives bytes ts t)

fails_why : (bytes : List ℕ) (e : TurtleError) → Fails e (reading bytes) → e ≢ Memory → IsRefused bytes e
fails_why bytes Memory h k = absurd (k refl)
fails_why bytes (Utf8 at) h k = refuses bytes (Utf8 at) h
fails_why bytes (Syntax n) h k = refuses bytes (Syntax n) h
fails_why bytes (NoPrefix n) h k = refuses bytes (NoPrefix n) h
fails_why bytes (Unsupported n) h k = refuses bytes (Unsupported n) h

pub is_refused_for : {X : Type 0} (view : X → List Fact) (bytes : List ℕ) (r : Result X TurtleError) → Matches view r (reading bytes) → IfErr r (λ why. why ≢ Memory → IsRefused bytes why)
is_refused_for view bytes (Ok found) h = tt
is_refused_for view bytes (Err e) h = fails_why bytes e h

fails_told : (e why : TurtleError) (outcome : Outcome) → Fails e outcome → outcome ≡ Refuses why → (e ≡ why) ⊎ (e ≡ Memory)
fails_told Memory why outcome h k = inr refl
fails_told (Syntax n) why outcome h k = let c : Refuses (Syntax n) ≡ Refuses why = sym h ∙ k in inl cc
fails_told (NoPrefix n) why outcome h k = let c : Refuses (NoPrefix n) ≡ Refuses why = sym h ∙ k in inl cc
fails_told (Unsupported n) why outcome h k = let c : Refuses (Unsupported n) ≡ Refuses why = sym h ∙ k in inl cc
fails_told (Utf8 n) why outcome h k = let c : Refuses (Utf8 n) ≡ Refuses why = sym h ∙ k in inl cc

abbrev failed : {X : Type 0} → TurtleError → Result X TurtleError
failed e = Err e

pub is_told : {X : Type 0} (view : X → List Fact) (bytes : List ℕ) (why : TurtleError) (r : Result X TurtleError) → Matches view r (reading bytes) → IsRefused bytes why → (r ≡ Err why) ⊎ (r ≡ Err Memory)
is_told view bytes why (Ok found) h k = let c : Gives (view found) ≡ Refuses why = sym h ∙ is_why bytes why k in absurd cc
is_told {X} view bytes why (Err e) h k = elim (fails_told e why (reading bytes) h (is_why bytes why k)) [ inl s ↦ inl (ap (failed {X = X}) s) | inr s ↦ inr (ap (failed {X = X}) s) ]

-- ---- laws

pub says_once : (bytes : List ℕ) (ts us : List Fact) → IsTurtle bytes ts → IsTurtle bytes us → ts ≡ us
says_once bytes ts us h k = let e : Gives ts ≡ Gives us = sym (gives bytes ts h) ∙ gives bytes us k in cc

pub takes_or_refuses : (bytes : List ℕ) (ts : List Fact) (why : TurtleError) → IsTurtle bytes ts → IsRefused bytes why → ⊥
takes_or_refuses bytes ts why h k = let e : Gives ts ≡ Refuses why = sym (gives bytes ts h) ∙ is_why bytes why k in cc

pub refuses_once : (bytes : List ℕ) (e f : TurtleError) → IsRefused bytes e → IsRefused bytes f → e ≡ f
refuses_once bytes e f h k = let c : Refuses e ≡ Refuses f = sym (is_why bytes e h) ∙ is_why bytes f k in cc

decided : (bytes : List ℕ) (outcome : Outcome) → reading bytes ≡ outcome → ((ts : List Fact) × IsTurtle bytes ts) ⊎ ((why : TurtleError) × IsRefused bytes why)
decided bytes (Gives ts) h = inl (ts, given bytes ts h)
decided bytes (Refuses why) h = inr (why, refuses bytes why h)
decided bytes Breaks h = absurd (never_broken bytes h)

pub decides : (bytes : List ℕ) → ((ts : List Fact) × IsTurtle bytes ts) ⊎ ((why : TurtleError) × IsRefused bytes why)
decides bytes = decided bytes (reading bytes) refl
