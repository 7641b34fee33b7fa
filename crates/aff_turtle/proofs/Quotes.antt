-- Reading a literal character by character.
use Rattle.std.proofs.Common.{◌≡◌, ℕ, zero, suc, ◌+◌, ◌<◌, ◌≤◌, true, false, cond, eqb, List, [], ◌∷◌, ◌++◌, length, get_or, drop, Option, Some, None, refl, sym, ap, ◌∙◌, append_assoc, arith}
use Rattle.std.proofs.Common.{◌≢◌, eq-eqb}
use Rattle.std.proofs.lemmas.Bool.{ne_eqb}
use Rattle.std.proofs.lemmas.List.{at_drop_more, at_drop_all, append-nil, drop-drop}
use Rattle.aff_turtle.specs.Codes as code
use Rattle.aff_turtle.specs.Characters.{is_line_end}
use Rattle.aff_turtle.specs.Quoted.{Body, escaped, onto, onto_found, past, quoted}

-- what was read before, and what is still read
abbrev pub joined : List ℕ → ℕ → Option Body → Option Body
joined front taken None = None
joined front taken (Some body) = Some (front ++ body.0, body.1 + taken)

abbrev pub some_body : List ℕ → ℕ → Option Body
some_body text taken = Some (text, taken)

pub pair_is : (text more : List ℕ) (a b : ℕ) → text ≡ more → a ≡ b → some_body text a ≡ some_body more b
pair_is text more a b e f = cc

pub joined-none : (read : Option Body) → joined [] 0 read ≡ read
joined-none None = refl
joined-none (Some body) = pair_is body.0 body.0 (body.1 + 0) body.1 refl (omega arith)

joined-past : (taken : ℕ) (read : Option Body) → past (joined [] taken read) ≡ joined [] (suc taken) read
joined-past taken None = refl
joined-past taken (Some body) = pair_is body.0 body.0 (body.1 + taken + 1) (body.1 + suc taken) refl (omega arith)

pub joined-onto : (front : List ℕ) (taken k c : ℕ) (read : Option Body) → joined front taken (onto c (joined [] k read)) ≡ joined (front ++ c ∷ []) (taken + 1 + k) read
joined-onto front taken k c None = refl
joined-onto front taken k c (Some body) = pair_is (front ++ c ∷ body.0) ((front ++ c ∷ []) ++ body.0) (body.1 + k + 1 + taken) (body.1 + (taken + 1 + k)) (simp append_assoc) (omega arith)

pub skipped : (q k : ℕ) (cs : List ℕ) → quoted q k cs ≡ joined [] k (quoted q 0 (drop k cs))
unfolding quoted
skipped q zero cs = sym (joined-none (quoted q 0 cs))
skipped q (suc k) [] = refl
skipped q (suc k) (c ∷ cs) = ap past (skipped q k cs) ∙ joined-past k (quoted q 0 (drop k cs))

-- what stands at a place
at_place : (q c : ℕ) (cs : List ℕ) (place : ℕ) → place < length cs → c ≡ get_or cs place c
    → quoted q 0 (drop place cs) ≡ cond (eqb c q) (Some ([], 1)) (cond (eqb c code.backslash) (onto_found (λ skip. quoted q skip (drop (place + 1) cs)) (escaped (drop (place + 1) cs))) (cond (is_line_end c) None (onto c (quoted q 0 (drop (place + 1) cs)))))
unfolding quoted
at_place q c cs place inside e = at_drop_more (quoted q 0) cs place c inside ∙ rw (sym e) refl

pub closes : (q c : ℕ) (cs front : List ℕ) (place : ℕ) (total : Option Body) → place < length cs → c ≡ get_or cs place c → c ≡ q
    → joined front place (quoted q 0 (drop place cs)) ≡ total → Some (front, place + 1) ≡ total
closes q c cs front place total inside e is so_far =
    let test : eqb c q ≡ true = eq-eqb c q is in
    let one : quoted q 0 (drop place cs) ≡ Some ([], 1) = at_place q c cs place inside e ∙ rw test refl in
    pair_is front (front ++ []) (place + 1) (1 + place) (sym (append-nil front)) (omega arith) ∙ ap (joined front place) (sym one) ∙ so_far

pub fails : (q c : ℕ) (cs front : List ℕ) (place : ℕ) (total : Option Body) → place < length cs → c ≡ get_or cs place c → c ≢ q → c ≢ code.backslash → is_line_end c ≡ true
    → joined front place (quoted q 0 (drop place cs)) ≡ total → None ≡ total
fails q c cs front place total inside e no_quote no_escape line_end so_far =
    let one : quoted q 0 (drop place cs) ≡ None = at_place q c cs place inside e ∙ rw (ne_eqb c q no_quote, ne_eqb c code.backslash no_escape, line_end) refl in
    ap (joined front place) (sym one) ∙ so_far

pub fails_escape : (q c : ℕ) (cs front : List ℕ) (place : ℕ) (total : Option Body) → place < length cs → c ≡ get_or cs place c → c ≢ q → c ≡ code.backslash → None ≡ escaped (drop (place + 1) cs)
    → joined front place (quoted q 0 (drop place cs)) ≡ total → None ≡ total
fails_escape q c cs front place total inside e no_quote escape none so_far =
    let one : quoted q 0 (drop place cs) ≡ None = at_place q c cs place inside e ∙ rw (ne_eqb c q no_quote, eq-eqb c code.backslash escape, sym none) refl in
    ap (joined front place) (sym one) ∙ so_far

pub goes_on : (q c : ℕ) (cs front : List ℕ) (place : ℕ) (total : Option Body) → place < length cs → c ≡ get_or cs place c → c ≢ q → c ≢ code.backslash → is_line_end c ≡ false
    → joined front place (quoted q 0 (drop place cs)) ≡ total → joined (front ++ c ∷ []) (place + 1) (quoted q 0 (drop (place + 1) cs)) ≡ total
goes_on q c cs front place total inside e no_quote no_escape no_end so_far =
    let rest = quoted q 0 (drop (place + 1) cs) in
    let one : quoted q 0 (drop place cs) ≡ onto c rest = at_place q c cs place inside e ∙ rw (ne_eqb c q no_quote, ne_eqb c code.backslash no_escape, no_end) refl in
    let k : place + 1 ≡ place + 1 + 0 = omega arith in
    ap (λ n. joined (front ++ c ∷ []) n rest) k ∙ sym (joined-onto front place 0 c rest) ∙ ap (λ r. joined front place (onto c r)) (joined-none rest) ∙ ap (joined front place) (sym one) ∙ so_far

pub goes_on_behind : (q c d taken : ℕ) (cs front : List ℕ) (place : ℕ) (total : Option Body) → place < length cs → c ≡ get_or cs place c → c ≢ q → c ≡ code.backslash → Some (d, taken) ≡ escaped (drop (place + 1) cs)
    → joined front place (quoted q 0 (drop place cs)) ≡ total → joined (front ++ d ∷ []) (place + (1 + taken)) (quoted q 0 (drop (place + (1 + taken)) cs)) ≡ total
goes_on_behind q c d taken cs front place total inside e no_quote escape some so_far =
    let rest = drop (place + 1) cs in
    let one : quoted q 0 (drop place cs) ≡ onto d (quoted q taken rest) = at_place q c cs place inside e ∙ rw (ne_eqb c q no_quote, eq-eqb c code.backslash escape, sym some) refl in
    let k : place + (1 + taken) ≡ place + 1 + taken = omega arith in
    rw (k, ← drop-drop taken (place + 1) cs) (sym (joined-onto front place taken d (quoted q 0 (drop taken rest))) ∙ ap (λ r. joined front place (onto d r)) (sym (skipped q taken rest)) ∙ ap (joined front place) (sym one) ∙ so_far)

pub ends : (q : ℕ) (cs front : List ℕ) (place : ℕ) (total : Option Body) → length cs ≤ place → joined front place (quoted q 0 (drop place cs)) ≡ total → None ≡ total
unfolding quoted
ends q cs front place total past so_far = ap (joined front place) (sym (at_drop_all (quoted q 0) cs place past)) ∙ so_far
