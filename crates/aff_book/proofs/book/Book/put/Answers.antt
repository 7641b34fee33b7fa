use Rattle.std.proofs.Common.{◌≡◌, ◌≢◌, ℕ, ◌≤◌, List, ◌∷◌, [], ◌++◌, Bool, true, false, true≢false, length, refl, sym, ap, subst, subst₂, ◌∙◌, rules, Err}
use Rattle.std.specs.Prelude.{Contains, IsTrue}
use Rattle.aff_model.specs.History.{Part, Published}
use Rattle.aff_spec.specs.Appends.{Reaches}
use Rattle.aff_spec.specs.Bevvies.{more_appends}
use Rattle.aff_outside.specs.declared.folder.FolderError.TheVariants.{Failed as FolderFailed}
use Rattle.aff_store.specs.Pieces.{IsPieceOf, chosen_chunks}
use Rattle.aff_claim.specs.declared.view.BookView.{BookView}
use Rattle.aff_claim.specs.declared.word.Word.TheVariants.{Claimed}
use Rattle.aff_claim.specs.Steps.{published_if}
use Rattle.aff_claim.specs.Values.{Table}
use Rattle.aff_snapshot.specs.Sound.{IsSoundIn}
use Rattle.aff_book.specs.declared.put.Put.TheVariants.{Done, Memory}
use Rattle.aff_book.specs.Answers.{Answered, IsAdded, IsNotAdded, LacksMemory, found_claim}
use Rattle.aff_book.specs.Pages.{Pages, run_of}
use Rattle.aff_book.specs.Rule.{AreTied, IsGoing}
use Rattle.aff_book.proofs.Adding.{has_room, is_sound, reached_all, rule_added, rule_not_added, rule_seat}
use Rattle.aff_book.proofs.Tying.{HasFound, has_found, held_claim, named_else, tied_looked}
use Rattle.aff_book.proofs.book.Book.put.Goals as goal

pub invariant_of-self : goal.invariant_of-self
invariant_of-self g c =
    let run = run_of g.C.Case g.N.Named in
    let tells = g.F.Folder.tells in
    let told = g.F.Receipt.Telling.told in
    let b : Pages g.row.F-Receipt.Denot = record {
      seat = c.self.inside.seat.view;
      pieces = c.self.inside.publisher.pieces;
      stream = c.self.inside.stream;
      held = g.F.Folder.held c.self.inside.folder;
      faults = g.F.Folder.folder_faults c.self.inside.folder;
      stopped = c.self.inside.stopped;
      memory = c.self.inside.memory;
    } in
    let i = c.self.invariant in
    let l = c.book_look-word.ensures in
    let tied = tied_looked c.self.inside.seat.view b.pieces c.args.claim.extent c.book_look-word.result i.3.tied in
    (l.table ∙ i.0, i.1, i.2, rule_seat run tells told b i.3 c.book_look-word.new.seat.view (subst (λ v. AreTied v b.pieces) (sym l.view) tied))

pub returns-then-not-is_claim_of-clause-ours : goal.returns-then-not-is_claim_of-clause-ours
returns-then-not-is_claim_of-clause-ours g c =
    let l = c.book_look-word.ensures in
    let e : ℕ = c.args.claim.extent in
    let k : ℕ = c.args.claim.claimant in
    let same : c.self.inside.seat.view ≡ c.args.self.now.seat = ap (λ (p : Pages g.row.F-Receipt.Denot). p.seat) c.self.view_is in
    let other : c.book_look-word.result ≢ Claimed c.args.claim.claimant = (λ same. true≢false (sym (c.if-not-is_claim_of.ensures.1 same))) in
    λ word is held.
    subst (λ (v : BookView). Contains v.out e) same (l.out.1 (named_else c.book_look-word.result k (l.held k (subst (λ (v : BookView). Contains v.held (e, k)) (sym same) held)) other))

pub put-requires-clause-room : goal.put-requires-clause-room
put-requires-clause-room g c κs within =
    let run = run_of g.C.Case g.N.Named in
    let tells = g.F.Folder.tells in
    let told = g.F.Receipt.Telling.told in
    let b : Pages g.row.F-Receipt.Denot = record {
      seat = c.self.inside.seat.view;
      pieces = c.self.inside.publisher.pieces;
      stream = c.self.inside.stream;
      held = g.F.Folder.held c.self.inside.folder;
      faults = g.F.Folder.folder_faults c.self.inside.folder;
      stopped = c.self.inside.stopped;
      memory = c.self.inside.memory;
    } in
    let i = c.self.invariant in
    has_room run tells told b i.3 (record { folder = c.if-self.false; memory = c.if-self-2.false })

pub invariant_of-self-in-Err-Failed : goal.invariant_of-self-in-Err-Failed
invariant_of-self-in-Err-Failed g c =
    let run = run_of g.C.Case g.N.Named in
    let tells = g.F.Folder.tells in
    let told = g.F.Receipt.Telling.told in
    let b : Pages g.row.F-Receipt.Denot = record {
      seat = c.self.inside.seat.view;
      pieces = c.self.inside.publisher.pieces;
      stream = c.self.inside.stream;
      held = g.F.Folder.held c.self.inside.folder;
      faults = g.F.Folder.folder_faults c.self.inside.folder;
      stopped = c.self.inside.stopped;
      memory = c.self.inside.memory;
    } in
    let i = c.self.invariant in
    let l = c.book_look-word.ensures in
    let k : ℕ = c.args.claim.claimant in
    let d = c.args.draft in
    let bytes = c.args.bytes.now in
    let going : IsGoing b = record { folder = c.if-self.false; memory = c.if-self-2.false } in
    let claimed : c.book_look-word.result ≡ Claimed c.args.claim.claimant = c.if-not-is_claim_of.ensures.0 refl in
    let f = has_found c.args.claims.now.table.workers c.self.inside.seat.view c.book_look-word.new.seat.view c.args.claim c.book_look-word.result l.view l.out l.number claimed in
    let most : k ≤ run.workers = subst (λ n. k ≤ n) (ap (λ (t : Table). t.workers) c.requires.table) f.most in
    let now : Pages g.row.F-Receipt.Denot = record {
      seat = c.book_look-word.new.seat.view;
      pieces = c.self.inside.publisher.pieces;
      stream = c.put.new.self;
      held = g.F.Folder.held c.put.new.folder;
      faults = g.F.Folder.folder_faults c.put.new.folder;
      stopped = true;
      memory = c.self.inside.memory;
    } in
    let rose = c.put.ensures.cause.rose (c.in-Err-Failed.is ∙ ap Err c.in-Err-Failed.field-0-is) in (
      l.table ∙ i.0,
      i.1,
      i.2,
      rule_not_added run tells told b i.3 going c.args.claim d bytes c.requires.planned c.requires.read f.free most c.requires.swept now refl f.seat (λ still. true≢false still.folder)
          c.in-Err-Failed.ensures.part c.put.ensures.cause.later (λ _. rose),
    )

pub invariant_of-self-in-Err-Memory : goal.invariant_of-self-in-Err-Memory
invariant_of-self-in-Err-Memory g c =
    let run = run_of g.C.Case g.N.Named in
    let tells = g.F.Folder.tells in
    let told = g.F.Receipt.Telling.told in
    let b : Pages g.row.F-Receipt.Denot = record {
      seat = c.self.inside.seat.view;
      pieces = c.self.inside.publisher.pieces;
      stream = c.self.inside.stream;
      held = g.F.Folder.held c.self.inside.folder;
      faults = g.F.Folder.folder_faults c.self.inside.folder;
      stopped = c.self.inside.stopped;
      memory = c.self.inside.memory;
    } in
    let i = c.self.invariant in
    let l = c.book_look-word.ensures in
    let k : ℕ = c.args.claim.claimant in
    let d = c.args.draft in
    let bytes = c.args.bytes.now in
    let going : IsGoing b = record { folder = c.if-self.false; memory = c.if-self-2.false } in
    let claimed : c.book_look-word.result ≡ Claimed c.args.claim.claimant = c.if-not-is_claim_of.ensures.0 refl in
    let f = has_found c.args.claims.now.table.workers c.self.inside.seat.view c.book_look-word.new.seat.view c.args.claim c.book_look-word.result l.view l.out l.number claimed in
    let most : k ≤ run.workers = subst (λ n. k ≤ n) (ap (λ (t : Table). t.workers) c.requires.table) f.most in
    let now : Pages g.row.F-Receipt.Denot = record {
      seat = c.book_look-word.new.seat.view;
      pieces = c.self.inside.publisher.pieces;
      stream = c.put.new.self;
      held = g.F.Folder.held c.put.new.folder;
      faults = g.F.Folder.folder_faults c.put.new.folder;
      stopped = c.self.inside.stopped;
      memory = true;
    } in (
      l.table ∙ i.0,
      i.1,
      i.2,
      rule_not_added run tells told b i.3 going c.args.claim d bytes c.requires.planned c.requires.read f.free most c.requires.swept now refl f.seat (λ still. true≢false still.memory)
          c.in-Err-Memory.ensures.part c.put.ensures.cause.later (λ s. absurd (true≢false (sym s ∙ c.if-self.false))),
    )

pub publish-requires-clause-held : goal.publish-requires-clause-held
publish-requires-clause-held g c κs within =
    let run = run_of g.C.Case g.N.Named in
    let tells = g.F.Folder.tells in
    let told = g.F.Receipt.Telling.told in
    let b : Pages g.row.F-Receipt.Denot = record {
      seat = c.self.inside.seat.view;
      pieces = c.self.inside.publisher.pieces;
      stream = c.self.inside.stream;
      held = g.F.Folder.held c.self.inside.folder;
      faults = g.F.Folder.folder_faults c.self.inside.folder;
      stopped = c.self.inside.stopped;
      memory = c.self.inside.memory;
    } in
    let i = c.self.invariant in
    let l = c.book_look-word.ensures in
    let k : ℕ = c.args.claim.claimant in
    let d = c.args.draft in
    let bytes = c.args.bytes.now in
    let going : IsGoing b = record { folder = c.if-self.false; memory = c.if-self-2.false } in
    let claimed : c.book_look-word.result ≡ Claimed c.args.claim.claimant = c.if-not-is_claim_of.ensures.0 refl in
    let f = has_found c.args.claims.now.table.workers c.self.inside.seat.view c.book_look-word.new.seat.view c.args.claim c.book_look-word.result l.view l.out l.number claimed in
    let most : k ≤ run.workers = subst (λ n. k ≤ n) (ap (λ (t : Table). t.workers) c.requires.table) f.most in
    let p = c.in-Ok.piece in
    let is : IsPieceOf c.args.claim (length c.self.inside.stream.chunks) bytes d tells told c.in-Ok.piece = c.in-Ok.ensures.piece in
    let e : c.in-Ok.piece.extent ≡ c.args.claim.extent = ap (λ (q : Published). q.extent) is.is in
    let n : c.in-Ok.piece.claimant ≡ c.args.claim.claimant = ap (λ (q : Published). q.claimant) is.is in
    let held = subst₂ (λ x m. Contains (found_claim c.args.claim c.self.inside.seat.view).held (x, m)) (sym e) (sym n) (held_claim c.self.inside.seat.view c.args.claim.extent c.args.claim.claimant) in
    subst (λ (v : BookView). Contains v.held (c.in-Ok.piece.extent, c.in-Ok.piece.claimant)) (sym f.seat) held

pub publish-requires-clause-sound : goal.publish-requires-clause-sound
publish-requires-clause-sound g c κs within =
    let run = run_of g.C.Case g.N.Named in
    let tells = g.F.Folder.tells in
    let told = g.F.Receipt.Telling.told in
    let b : Pages g.row.F-Receipt.Denot = record {
      seat = c.self.inside.seat.view;
      pieces = c.self.inside.publisher.pieces;
      stream = c.self.inside.stream;
      held = g.F.Folder.held c.self.inside.folder;
      faults = g.F.Folder.folder_faults c.self.inside.folder;
      stopped = c.self.inside.stopped;
      memory = c.self.inside.memory;
    } in
    let i = c.self.invariant in
    let l = c.book_look-word.ensures in
    let k : ℕ = c.args.claim.claimant in
    let d = c.args.draft in
    let bytes = c.args.bytes.now in
    let going : IsGoing b = record { folder = c.if-self.false; memory = c.if-self-2.false } in
    let claimed : c.book_look-word.result ≡ Claimed c.args.claim.claimant = c.if-not-is_claim_of.ensures.0 refl in
    let f = has_found c.args.claims.now.table.workers c.self.inside.seat.view c.book_look-word.new.seat.view c.args.claim c.book_look-word.result l.view l.out l.number claimed in
    let most : k ≤ run.workers = subst (λ n. k ≤ n) (ap (λ (t : Table). t.workers) c.requires.table) f.most in
    let p = c.in-Ok.piece in
    let is : IsPieceOf c.args.claim (length c.self.inside.stream.chunks) bytes d tells told c.in-Ok.piece = c.in-Ok.ensures.piece in
    let e : c.in-Ok.piece.extent ≡ c.args.claim.extent = ap (λ (q : Published). q.extent) is.is in
    let n : c.in-Ok.piece.claimant ≡ c.args.claim.claimant = ap (λ (q : Published). q.claimant) is.is in
    let sound = is_sound run tells told b i.3 going c.args.claim d bytes c.requires.planned c.requires.read p is in
    subst (λ t. IsSoundIn run.case c.self.inside.publisher.list.plan t told p) (sym (g.met.F.Folder g.world.𝓛 g.world.𝓜 g.world.𝓡 ((λ s x. x), (λ x. x), (λ x. x), λ x. x)).receipts_tell)
    (subst (λ l. IsSoundIn run.case l.plan tells told p) (sym i.1) sound)

pub invariant_of-self-in-Ok-publish : goal.invariant_of-self-in-Ok-publish
invariant_of-self-in-Ok-publish g c =
    let run = run_of g.C.Case g.N.Named in
    let tells = g.F.Folder.tells in
    let told = g.F.Receipt.Telling.told in
    let b : Pages g.row.F-Receipt.Denot = record {
      seat = c.self.inside.seat.view;
      pieces = c.self.inside.publisher.pieces;
      stream = c.self.inside.stream;
      held = g.F.Folder.held c.self.inside.folder;
      faults = g.F.Folder.folder_faults c.self.inside.folder;
      stopped = c.self.inside.stopped;
      memory = c.self.inside.memory;
    } in
    let i = c.self.invariant in
    let l = c.book_look-word.ensures in
    let k : ℕ = c.args.claim.claimant in
    let d = c.args.draft in
    let bytes = c.args.bytes.now in
    let going : IsGoing b = record { folder = c.if-self.false; memory = c.if-self-2.false } in
    let claimed : c.book_look-word.result ≡ Claimed c.args.claim.claimant = c.if-not-is_claim_of.ensures.0 refl in
    let f = has_found c.args.claims.now.table.workers c.self.inside.seat.view c.book_look-word.new.seat.view c.args.claim c.book_look-word.result l.view l.out l.number claimed in
    let most : k ≤ run.workers = subst (λ n. k ≤ n) (ap (λ (t : Table). t.workers) c.requires.table) f.most in
    let p = c.in-Ok.piece in
    let is : IsPieceOf c.args.claim (length c.self.inside.stream.chunks) bytes d tells told c.in-Ok.piece = c.in-Ok.ensures.piece in
    let e : c.in-Ok.piece.extent ≡ c.args.claim.extent = ap (λ (q : Published). q.extent) is.is in
    let n : c.in-Ok.piece.claimant ≡ c.args.claim.claimant = ap (λ (q : Published). q.claimant) is.is in
    let now : Pages g.row.F-Receipt.Denot = record {
      seat = c.publish.new.seat.view;
      pieces = c.publish.new.publisher.pieces;
      stream = c.put.new.self;
      held = g.F.Folder.held c.put.new.folder;
      faults = g.F.Folder.folder_faults c.put.new.folder;
      stopped = c.self.inside.stopped;
      memory = c.self.inside.memory;
    } in
    let a = c.in-Ok-publish.ensures in
    let seat = a.seat ∙ (λ j. published_if true (f.seat j) (e j) (n j)) in (
      a.table ∙ (l.table ∙ i.0),
      a.list ∙ i.1,
      a.same,
      rule_added run tells told b i.3 going c.args.claim d bytes c.requires.planned c.requires.read f.free most c.requires.swept p is now a.pieces.0 seat
          c.in-Ok.ensures.next c.in-Ok.ensures.ok c.put.ensures.cause.later c.if-self.false,
    )

pub invariant_of-self-in-Err : goal.invariant_of-self-in-Err
invariant_of-self-in-Err g c =
    let run = run_of g.C.Case g.N.Named in
    let tells = g.F.Folder.tells in
    let told = g.F.Receipt.Telling.told in
    let b : Pages g.row.F-Receipt.Denot = record {
      seat = c.self.inside.seat.view;
      pieces = c.self.inside.publisher.pieces;
      stream = c.self.inside.stream;
      held = g.F.Folder.held c.self.inside.folder;
      faults = g.F.Folder.folder_faults c.self.inside.folder;
      stopped = c.self.inside.stopped;
      memory = c.self.inside.memory;
    } in
    let i = c.self.invariant in
    let l = c.book_look-word.ensures in
    let k : ℕ = c.args.claim.claimant in
    let d = c.args.draft in
    let bytes = c.args.bytes.now in
    let going : IsGoing b = record { folder = c.if-self.false; memory = c.if-self-2.false } in
    let claimed : c.book_look-word.result ≡ Claimed c.args.claim.claimant = c.if-not-is_claim_of.ensures.0 refl in
    let f = has_found c.args.claims.now.table.workers c.self.inside.seat.view c.book_look-word.new.seat.view c.args.claim c.book_look-word.result l.view l.out l.number claimed in
    let most : k ≤ run.workers = subst (λ n. k ≤ n) (ap (λ (t : Table). t.workers) c.requires.table) f.most in
    let now : Pages g.row.F-Receipt.Denot = record {
      seat = c.publish.new.seat.view;
      pieces = c.publish.new.publisher.pieces;
      stream = c.put.new.self;
      held = g.F.Folder.held c.put.new.folder;
      faults = g.F.Folder.folder_faults c.put.new.folder;
      stopped = c.self.inside.stopped;
      memory = true;
    } in
    let a = c.in-Err.ensures in
    let reached : IsTrue tells → Reaches b.held (more_appends b.stream.urn b.stream.chunks (chosen_chunks bytes d.stored)) now.held = λ t. reached_all b.held now.held (more_appends b.stream.urn b.stream.chunks (chosen_chunks bytes d.stored)) (c.in-Ok.ensures.ok t) in (
      a.table ∙ (l.table ∙ i.0),
      a.list ∙ i.1,
      a.same,
      rule_not_added run tells told b i.3 going c.args.claim d bytes c.requires.planned c.requires.read f.free most c.requires.swept now a.pieces (a.seat ∙ f.seat) (λ still. true≢false still.memory)
          reached c.put.ensures.cause.later (λ s. absurd (true≢false (sym s ∙ c.if-self.false))),
    )

pub returns-in-Ok-publish-clause-answer : goal.returns-in-Ok-publish-clause-answer
returns-in-Ok-publish-clause-answer g c =
    let run = run_of g.C.Case g.N.Named in
    let tells = g.F.Folder.tells in
    let told = g.F.Receipt.Telling.told in
    let b : Pages g.row.F-Receipt.Denot = record {
      seat = c.self.inside.seat.view;
      pieces = c.self.inside.publisher.pieces;
      stream = c.self.inside.stream;
      held = g.F.Folder.held c.self.inside.folder;
      faults = g.F.Folder.folder_faults c.self.inside.folder;
      stopped = c.self.inside.stopped;
      memory = c.self.inside.memory;
    } in
    let i = c.self.invariant in
    let l = c.book_look-word.ensures in
    let k : ℕ = c.args.claim.claimant in
    let d = c.args.draft in
    let bytes = c.args.bytes.now in
    let going : IsGoing b = record { folder = c.if-self.false; memory = c.if-self-2.false } in
    let claimed : c.book_look-word.result ≡ Claimed c.args.claim.claimant = c.if-not-is_claim_of.ensures.0 refl in
    let f = has_found c.args.claims.now.table.workers c.self.inside.seat.view c.book_look-word.new.seat.view c.args.claim c.book_look-word.result l.view l.out l.number claimed in
    let most : k ≤ run.workers = subst (λ n. k ≤ n) (ap (λ (t : Table). t.workers) c.requires.table) f.most in
    let p = c.in-Ok.piece in
    let is : IsPieceOf c.args.claim (length c.self.inside.stream.chunks) bytes d tells told c.in-Ok.piece = c.in-Ok.ensures.piece in
    let e : c.in-Ok.piece.extent ≡ c.args.claim.extent = ap (λ (q : Published). q.extent) is.is in
    let n : c.in-Ok.piece.claimant ≡ c.args.claim.claimant = ap (λ (q : Published). q.claimant) is.is in
    let now : Pages g.row.F-Receipt.Denot = record {
      seat = c.publish.new.seat.view;
      pieces = c.publish.new.publisher.pieces;
      stream = c.put.new.self;
      held = g.F.Folder.held c.put.new.folder;
      faults = g.F.Folder.folder_faults c.put.new.folder;
      stopped = c.self.inside.stopped;
      memory = c.self.inside.memory;
    } in
    let a = c.in-Ok-publish.ensures in
    let seat = a.seat ∙ (λ j. published_if true (f.seat j) (e j) (n j)) in
    let added : IsAdded tells told c.args.claim d bytes b now = record { piece = p; is = is; pieces = a.pieces.0; stream = c.in-Ok.ensures.next; appended = c.in-Ok.ensures.ok; seat = seat } in
    let all : Answered tells told c.args.claim d bytes b now (Done c.in-Ok-publish.front) = (going, added, a.pieces.1, record { folder = c.if-self.false; memory = c.if-self-2.false }) in
    subst (λ o. Answered tells told c.args.claim d bytes o now (Done c.in-Ok-publish.front)) c.self.view_is all

pub returns-in-Err-clause-answer : goal.returns-in-Err-clause-answer
returns-in-Err-clause-answer g c =
    let run = run_of g.C.Case g.N.Named in
    let tells = g.F.Folder.tells in
    let told = g.F.Receipt.Telling.told in
    let b : Pages g.row.F-Receipt.Denot = record {
      seat = c.self.inside.seat.view;
      pieces = c.self.inside.publisher.pieces;
      stream = c.self.inside.stream;
      held = g.F.Folder.held c.self.inside.folder;
      faults = g.F.Folder.folder_faults c.self.inside.folder;
      stopped = c.self.inside.stopped;
      memory = c.self.inside.memory;
    } in
    let i = c.self.invariant in
    let l = c.book_look-word.ensures in
    let k : ℕ = c.args.claim.claimant in
    let d = c.args.draft in
    let bytes = c.args.bytes.now in
    let going : IsGoing b = record { folder = c.if-self.false; memory = c.if-self-2.false } in
    let claimed : c.book_look-word.result ≡ Claimed c.args.claim.claimant = c.if-not-is_claim_of.ensures.0 refl in
    let f = has_found c.args.claims.now.table.workers c.self.inside.seat.view c.book_look-word.new.seat.view c.args.claim c.book_look-word.result l.view l.out l.number claimed in
    let most : k ≤ run.workers = subst (λ n. k ≤ n) (ap (λ (t : Table). t.workers) c.requires.table) f.most in
    let now : Pages g.row.F-Receipt.Denot = record {
      seat = c.publish.new.seat.view;
      pieces = c.publish.new.publisher.pieces;
      stream = c.put.new.self;
      held = g.F.Folder.held c.put.new.folder;
      faults = g.F.Folder.folder_faults c.put.new.folder;
      stopped = c.self.inside.stopped;
      memory = true;
    } in
    let a = c.in-Err.ensures in
    let not_added : IsNotAdded c.args.claim b now = record { pieces = a.pieces; seat = a.seat ∙ f.seat } in
    let lacks : LacksMemory b.memory c.args.claim b now = subst (λ m. LacksMemory m c.args.claim b now) (sym c.if-self-2.false) (not_added, c.if-self.false, refl) in
    subst (λ o. Answered tells told c.args.claim d bytes o now Memory) c.self.view_is (c.if-self.false, lacks)
