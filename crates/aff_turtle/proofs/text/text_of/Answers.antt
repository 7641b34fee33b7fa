use Rattle.std.proofs.Common.{◌≡◌, ℕ, ◌+◌, ◌<◌, ◌++◌, ◌∷◌, [], List, length, take, get_or, sym, ap, ◌∙◌}
use Rattle.std.proofs.lemmas.List.{take_more, append-nil}
use Rattle.std.proofs.lemmas.Str.{encodes-append}
use Rattle.std.specs.Prelude.{encode_utf8}
use Rattle.std.specs.Str.{encode_utf8_all}
use Rattle.aff_turtle.proofs.text.text_of.Goals as goal

one_more : (cs : List ℕ) (place c : ℕ) → place < length cs → c ≡ get_or cs place c → encode_utf8_all (take (place + 1) cs) ≡ encode_utf8_all (take place cs) ++ encode_utf8 c
one_more cs place c inside e = ap encode_utf8_all (take_more cs place c inside) ∙ encodes-append (take place cs) (get_or cs place c ∷ []) ∙ ap (λ bs. encode_utf8_all (take place cs) ++ bs) (append-nil (encode_utf8 (get_or cs place c))) ∙ ap (λ d. encode_utf8_all (take place cs) ++ encode_utf8 d) (sym e)

pub loop-c-preserved : goal.loop-c-preserved
loop-c-preserved c = rw c.in_ok-push.ensures.bytes (rw c.loop-c.invariant (sym (one_more c.args.chars.now c.loop-c.c-index c.c-item.result c.loop-c-test.true c.c-item.is)))
