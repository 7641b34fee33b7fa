-- Answers by a beginning of a list are answers by the list, and one more answer joins them.
use Rattle.std.proofs.Common.{◌≡◌, ℕ, ◌+◌, ◌<◌, ◌≤◌, Bool, cond, Option, None, Some, IfSome, List, [], ◌∷◌, ◌++◌, length, map, take, get_or, sym, ap, subst, ◌∙◌, arith, ⊎_elim, length-append}
use Rattle.std.proofs.lemmas.List.{append-nil, append_assoc, take-append-le, take_more}
use mathlib.Core.List.{IsPrefix}
use Rattle.aff_model.specs.History.{Part, publication_of}
use Rattle.aff_model.specs.Kinds.{IsAnswer}
use Rattle.aff_model.specs.Plan.{Planned}
use Rattle.std.specs.Prelude.{All, is_some}
use Rattle.aff_snapshot.specs.Lists.{Beginning}
use Rattle.aff_analyst.specs.Values.{MayHaveGrown}
use Rattle.aff_script.specs.Answered.{Answered}
use Rattle.aff_script.specs.declared.script.Request.{Request}
use Rattle.aff_script.specs.declared.script.Request.TheVariants.{Read, Raise, Await, After}
use Rattle.aff_session.specs.Answers.{AreAnswers, late_of, live_of, run_of}
use Rattle.aff_session.specs.Looking.{IsWholeAnswer}
use Rattle.aff_session.proofs.Requests.{live_late, live_take}
use Rattle.aff_session.specs.Shown.{AreAnsweredBy, AreLive, IsAnsweredBy, IsLineBy}

-- where each answer is also another kind of answer, the answers are such answers
pub answers_to : (Is Will : ℕ → ℕ → Answered → Type 0) (whole seen : ℕ) (requests : List Request) (answers : List Answered) → ((at len : ℕ) (a : Answered) → Is at len a → Will at len a) → AreAnswers Is whole seen requests answers → AreAnswers Will whole seen requests answers
answers_to Is Will whole seen [] [] to all = tt
answers_to Is Will whole seen [] (a ∷ answers) to all = absurd all
answers_to Is Will whole seen (Read at len ∷ requests) [] to all = absurd all
answers_to Is Will whole seen (Read at len ∷ requests) (a ∷ answers) to all = (to at len a all.0, all.1, answers_to Is Will whole a.front requests answers to all.2)
answers_to Is Will whole seen (Raise at len ∷ requests) answers to all = answers_to Is Will whole seen requests answers to all
answers_to Is Will whole seen (Await count ∷ requests) answers to all = answers_to Is Will whole seen requests answers to all
answers_to Is Will whole seen (After ∷ requests) answers to all = answers_to Is Will whole whole requests answers to all

-- before `after` the whole does not count
pub answers_live : (Is : ℕ → ℕ → Answered → Type 0) (whole other seen : ℕ) (requests : List Request) (answers : List Answered) → AreAnswers Is whole seen (live_of requests) answers → AreAnswers Is other seen (live_of requests) answers
answers_live Is whole other seen [] [] all = tt
answers_live Is whole other seen [] (a ∷ answers) all = absurd all
answers_live Is whole other seen (Read at len ∷ requests) [] all = absurd all
answers_live Is whole other seen (Read at len ∷ requests) (a ∷ answers) all = (all.0, all.1, answers_live Is whole other a.front requests answers all.2)
answers_live Is whole other seen (Raise at len ∷ requests) answers all = answers_live Is whole other seen requests answers all
answers_live Is whole other seen (Await count ∷ requests) answers all = answers_live Is whole other seen requests answers all
answers_live Is whole other seen (After ∷ requests) [] all = tt
answers_live Is whole other seen (After ∷ requests) (a ∷ answers) all = absurd all

-- an answer by the whole joins
pub answers_push : (Is : ℕ → ℕ → Answered → Type 0) (whole seen : ℕ) (requests : List Request) (answers : List Answered) (at len : ℕ) (a : Answered) → seen ≤ whole → ((i n : ℕ) (b : Answered) → Is i n b → b.front ≤ whole) → Is at len a → a.front ≡ whole
    → AreAnswers Is whole seen requests answers → AreAnswers Is whole seen (requests ++ Read at len ∷ []) (answers ++ a ∷ [])
answers_push Is whole seen [] [] at len a low few is front all = (is, omega (arith, low, front), tt)
answers_push Is whole seen [] (b ∷ answers) at len a low few is front all = absurd all
answers_push Is whole seen (Read i n ∷ requests) [] at len a low few is front all = absurd all
answers_push Is whole seen (Read i n ∷ requests) (b ∷ answers) at len a low few is front all = (all.0, all.1, answers_push Is whole b.front requests answers at len a (few i n b all.0) few is front all.2)
answers_push Is whole seen (Raise i n ∷ requests) answers at len a low few is front all = answers_push Is whole seen requests answers at len a low few is front all
answers_push Is whole seen (Await count ∷ requests) answers at len a low few is front all = answers_push Is whole seen requests answers at len a low few is front all
answers_push Is whole seen (After ∷ requests) answers at len a low few is front all = answers_push Is whole whole requests answers at len a (omega arith) few is front all

-- a request that is no read joins without an answer
answers_skip : (Is : ℕ → ℕ → Answered → Type 0) (whole seen : ℕ) (requests : List Request) (answers : List Answered) (request : Request) → ((seen : ℕ) → AreAnswers Is whole seen (request ∷ []) []) → AreAnswers Is whole seen requests answers → AreAnswers Is whole seen (requests ++ request ∷ []) answers
answers_skip Is whole seen [] [] request none all = none seen
answers_skip Is whole seen [] (b ∷ answers) request none all = absurd all
answers_skip Is whole seen (Read i n ∷ requests) [] request none all = absurd all
answers_skip Is whole seen (Read i n ∷ requests) (b ∷ answers) request none all = (all.0, all.1, answers_skip Is whole b.front requests answers request none all.2)
answers_skip Is whole seen (Raise i n ∷ requests) answers request none all = answers_skip Is whole seen requests answers request none all
answers_skip Is whole seen (Await count ∷ requests) answers request none all = answers_skip Is whole seen requests answers request none all
answers_skip Is whole seen (After ∷ requests) answers request none all = answers_skip Is whole whole requests answers request none all

-- an answer by some pieces is one by a longer list that begins with them
answer_more : (plan : Planned) (tells : Bool) {R : Type 0} (told : R → List ℕ) (pieces more : List (Part R)) (at len : ℕ) (a : Answered) → IsAnsweredBy plan tells told pieces at len a → IsAnsweredBy plan tells told (pieces ++ more) at len a
answer_more plan tells told pieces more at len a is =
    let same : take a.front (pieces ++ more) ≡ take a.front pieces = take-append-le a.front pieces more is.front in
    record {
      at_is = is.at_is;
      len_is = is.len_is;
      front = omega (arith, is.front, length-append pieces more);
      runs = subst (λ ps. IsAnswer plan.extents (map publication_of ps) at len (map run_of a.runs)) (sym same) is.runs;
      in_row = is.in_row;
      lines = subst (λ ps. All (IsLineBy plan tells told ps) a.runs) (sym same) is.lines;
    }

pub live_grows : (plan : Planned) (tells : Bool) {R : Type 0} (told : R → List ℕ) (pieces longer : List (Part R)) (requests : List Request) (answers : List Answered) → IsPrefix pieces longer
    → AreAnsweredBy plan tells told pieces (live_of requests) answers → AreAnsweredBy plan tells told longer (live_of requests) answers
live_grows plan tells told pieces longer requests answers p all =
    let more : AreAnswers (IsAnsweredBy plan tells told (pieces ++ p.0)) (length pieces) 0 (live_of requests) answers =
    answers_to (IsAnsweredBy plan tells told pieces) (IsAnsweredBy plan tells told (pieces ++ p.0)) (length pieces) 0 (live_of requests) answers (λ at len a is. answer_more plan tells told pieces p.0 at len a is) all in
    subst (λ ps. AreAnsweredBy plan tells told ps (live_of requests) answers) p.1 (answers_live (IsAnsweredBy plan tells told (pieces ++ p.0)) (length pieces) (length (pieces ++ p.0)) 0 requests answers more)

-- an answer by all of some pieces joins
pub joins_read : (plan : Planned) (tells : Bool) {R : Type 0} (told : R → List ℕ) (pieces : List (Part R)) (requests : List Request) (answers : List Answered) (at len : ℕ) (a : Answered) → IsAnsweredBy plan tells told pieces at len a → a.front ≡ length pieces
    → AreAnsweredBy plan tells told pieces requests answers → AreAnsweredBy plan tells told pieces (requests ++ Read at len ∷ []) (answers ++ a ∷ [])
joins_read plan tells told pieces requests answers at len a is front all =
    answers_push (IsAnsweredBy plan tells told pieces) (length pieces) 0 requests answers at len a (omega arith) (λ i n b one. one.front) is front all

pub joins_raise : (plan : Planned) (tells : Bool) {R : Type 0} (told : R → List ℕ) (pieces : List (Part R)) (requests : List Request) (answers : List Answered) (at len : ℕ) → AreAnsweredBy plan tells told pieces requests answers → AreAnsweredBy plan tells told pieces (requests ++ Raise at len ∷ []) answers
joins_raise plan tells told pieces requests answers at len all = answers_skip (IsAnsweredBy plan tells told pieces) (length pieces) 0 requests answers (Raise at len) (λ seen. tt) all

pub joins_await : (plan : Planned) (tells : Bool) {R : Type 0} (told : R → List ℕ) (pieces : List (Part R)) (requests : List Request) (answers : List Answered) (count : ℕ) → AreAnsweredBy plan tells told pieces requests answers → AreAnsweredBy plan tells told pieces (requests ++ Await count ∷ []) answers
joins_await plan tells told pieces requests answers count all = answers_skip (IsAnsweredBy plan tells told pieces) (length pieces) 0 requests answers (Await count) (λ seen. tt) all

pub joins_after : (plan : Planned) (tells : Bool) {R : Type 0} (told : R → List ℕ) (pieces : List (Part R)) (requests : List Request) (answers : List Answered) → AreAnsweredBy plan tells told pieces requests answers → AreAnsweredBy plan tells told pieces (requests ++ After ∷ []) answers
joins_after plan tells told pieces requests answers all = answers_skip (IsAnsweredBy plan tells told pieces) (length pieces) 0 requests answers After (λ seen. tt) all

-- the same, as a call leaves it
pub keeps_read : (plan : Planned) (tells : Bool) {R : Type 0} (told : R → List ℕ) (pieces : List (Part R)) (request : Request) (at len : ℕ) (olds news : List Answered) (a : Answered) → request ≡ Read at len → news ≡ olds ++ a ∷ [] → IsWholeAnswer plan tells told pieces at len a
    → (done : List Request) → AreAnsweredBy plan tells told pieces done olds → AreAnsweredBy plan tells told pieces (done ++ request ∷ []) news
keeps_read plan tells told pieces request at len olds news a is kept answer done all =
    subst (λ q. AreAnsweredBy plan tells told pieces (done ++ q ∷ []) news) (sym is)
    (subst (AreAnsweredBy plan tells told pieces (done ++ Read at len ∷ [])) (sym kept) (joins_read plan tells told pieces done olds at len a answer.answer answer.whole all))

pub keeps_raise : (plan : Planned) (tells : Bool) {R : Type 0} (told : R → List ℕ) (pieces : List (Part R)) (request : Request) (olds : List Answered) → ((at : ℕ) × (len : ℕ) × (request ≡ Raise at len))
    → (done : List Request) → AreAnsweredBy plan tells told pieces done olds → AreAnsweredBy plan tells told pieces (done ++ request ∷ []) olds
keeps_raise plan tells told pieces request olds is done all = subst (λ q. AreAnsweredBy plan tells told pieces (done ++ q ∷ []) olds) (sym is.2) (joins_raise plan tells told pieces done olds is.0 is.1 all)

pub keeps_await : (plan : Planned) (tells : Bool) {R : Type 0} (told : R → List ℕ) (pieces : List (Part R)) (request : Request) (olds : List Answered) (count : ℕ) → request ≡ Await count
    → (done : List Request) → AreAnsweredBy plan tells told pieces done olds → AreAnsweredBy plan tells told pieces (done ++ request ∷ []) olds
keeps_await plan tells told pieces request olds count is done all = subst (λ q. AreAnsweredBy plan tells told pieces (done ++ q ∷ []) olds) (sym is) (joins_await plan tells told pieces done olds count all)

pub keeps_after : (plan : Planned) (tells : Bool) {R : Type 0} (told : R → List ℕ) (pieces : List (Part R)) (request : Request) (olds : List Answered) → request ≡ After
    → (done : List Request) → AreAnsweredBy plan tells told pieces done olds → AreAnsweredBy plan tells told pieces (done ++ request ∷ []) olds
keeps_after plan tells told pieces request olds is done all = subst (λ q. AreAnsweredBy plan tells told pieces (done ++ q ∷ []) olds) (sym is) (joins_after plan tells told pieces done olds all)

-- one request more, while the viewer sees more
pub live_step : (plan same : Planned) (tells : Bool) {R : Type 0} (told : R → List ℕ) (old new : Option (Beginning R)) (requests : List Request) (i : ℕ) (e : Request) (olds news : List Answered) → same ≡ plan → live_of requests ≡ requests → i < length requests → MayHaveGrown old new
    → IfSome old (λ v. AreAnsweredBy plan tells told v.pieces (take i requests) olds)
    → IfSome new (λ v. (done : List Request) → AreAnsweredBy same tells told v.pieces done olds → AreAnsweredBy same tells told v.pieces (done ++ get_or requests i e ∷ []) news)
    → IfSome new (λ v. AreAnsweredBy plan tells told v.pieces (take (i + 1) requests) news)
live_step plan same tells told old None requests i e olds news is live low grown had step = tt
live_step plan same tells told None (Some w) requests i e olds news is live low grown had step = absurd (cc (grown))
live_step plan same tells told (Some v) (Some w) requests i e olds news is live low grown had step =
    let front : List Request = take i requests in
    let alike : live_of front ≡ front = live_take requests i live in
    let now : AreAnsweredBy plan tells told w.pieces front olds =
    subst (λ rs. AreAnsweredBy plan tells told w.pieces rs olds) alike
    (live_grows plan tells told v.pieces w.pieces front olds grown.longer (subst (λ rs. AreAnsweredBy plan tells told v.pieces rs olds) (sym alike) had)) in
    subst (λ rs. AreAnsweredBy plan tells told w.pieces rs news) (sym (take_more requests i e low))
    (subst (λ p. AreAnsweredBy p tells told w.pieces (front ++ get_or requests i e ∷ []) news) is
    (step front (subst (λ p. AreAnsweredBy p tells told w.pieces front olds) (sym is) now)))

-- one request more, by the whole list
pub late_step : (plan same : Planned) (tells : Bool) {R : Type 0} (told : R → List ℕ) (pieces : List (Part R)) (requests : List Request) (i : ℕ) (e : Request) (first olds news : List Answered) → same ≡ plan → i < length requests
    → ((done : List Request) → AreAnsweredBy plan tells told pieces done first → AreAnsweredBy plan tells told pieces (done ++ take i requests) olds)
    → ((done : List Request) → AreAnsweredBy same tells told pieces done olds → AreAnsweredBy same tells told pieces (done ++ get_or requests i e ∷ []) news)
    → (done : List Request) → AreAnsweredBy plan tells told pieces done first → AreAnsweredBy plan tells told pieces (done ++ take (i + 1) requests) news
late_step plan same tells told pieces requests i e first olds news is low had step done all =
    let front : List Request = done ++ take i requests in
    let now : AreAnsweredBy plan tells told pieces (front ++ get_or requests i e ∷ []) news =
    subst (λ p. AreAnsweredBy p tells told pieces (front ++ get_or requests i e ∷ []) news) is (step front (subst (λ p. AreAnsweredBy p tells told pieces front olds) (sym is) (had done all))) in
    subst (λ rs. AreAnsweredBy plan tells told pieces rs news) (append_assoc done (take i requests) (get_or requests i e ∷ []) ∙ ap (λ rs. done ++ rs) (sym (take_more requests i e low))) now

-- the live answers with the closing ones are those of the whole session
pub closed : (plan : Planned) (tells : Bool) {R : Type 0} (told : R → List ℕ) (pieces : List (Part R)) (viewer : Option (Beginning R)) (requests : List Request) (olds news : List Answered) → IfSome viewer (λ v. IsPrefix v.pieces pieces) → AreLive plan tells told viewer requests olds
    → ((done : List Request) → AreAnsweredBy plan tells told pieces done olds → AreAnsweredBy plan tells told pieces (done ++ cond (is_some viewer) (late_of requests) requests) news)
    → AreAnsweredBy plan tells told pieces requests news
closed plan tells told pieces None requests olds news seen live step = step [] (subst (AreAnsweredBy plan tells told pieces []) (sym live) tt)
closed plan tells told pieces (Some v) requests olds news seen live step =
    let now : AreAnsweredBy plan tells told pieces (live_of requests) olds = live_grows plan tells told v.pieces pieces requests olds seen live in
    ⊎_elim (λ is. subst (λ rs. AreAnsweredBy plan tells told pieces rs news) is (step (live_of requests ++ After ∷ []) (joins_after plan tells told pieces (live_of requests) olds now)))
    (λ both. subst (λ rs. AreAnsweredBy plan tells told pieces rs news) (ap (λ rs. live_of requests ++ rs) both.1 ∙ append-nil (live_of requests) ∙ both.0) (step (live_of requests) now))
    (live_late requests)
