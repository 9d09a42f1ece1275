-- The log says of the asks what the book does, and its lines are safe, whatever is called.
use Rattle.std.proofs.Common.{◌≡◌, ℕ, ◌<◌, ◌≤◌, Bool, true, List, [], ◌∷◌, ◌++◌, Option, Some, refl, sym, ap, ◌∙◌, subst, inl, inr, arith}
use Rattle.std.proofs.lemmas.Bool.{false≢true}
use Rattle.std.proofs.lemmas.List.{append-nil}
use Rattle.bay_book.specs.declared.ask.Mark.{Mark}
use Rattle.bay_book.specs.declared.ask.Mark.TheVariants.{None as NoLine, At}
use Rattle.bay_book.specs.declared.ask.Stage.TheVariants.{Holds}
use Rattle.bay_book.specs.Asks.{ask_at, no_ask, is_over, over, gone_since, back_again, hearing, IsSoundAt, IsSoundAsk}
use Rattle.bay_book.specs.Books.{BookView, IsSound, turn, reach, nobody}
use Rattle.bay_book.proofs.Sound.{sound_set, sound_add, sound_over, sound_gone, sound_back, sound_hearing, sound_turn, sound_purge, sound_hold}
use Rattle.bay_log.specs.declared.line.Entry.{Entry}
use Rattle.bay_log.specs.declared.line.Line.{Line}
use Rattle.bay_log.specs.declared.line.Line.TheVariants.{Head, Hold as HoldLine, Back, End as EndLine, Note}
use Rattle.bay_log.specs.Lines.{AreLines}
use Rattle.bay_log.specs.Logs.{LogView, beginning, end_of}
use Rattle.bay_log.specs.Alive.{alive}
use Rattle.bay.specs.declared.classes.Class.{Class}
use Rattle.bay.specs.declared.telling.Told.{Told}
use Rattle.bay.specs.Members.{Has}
use Rattle.bay.specs.Written.{is_given, bound_of, IsWritten}
use Rattle.bay.specs.Safe.{AreSafe, StaySafe}
use Rattle.bay.specs.Pages.{entry_of, pages}
use Rattle.bay.specs.Cores.{core}
use Rattle.bay.specs.Views.{RoomView, core_of}
use Rattle.bay.specs.Turning.{Turns, Changes, IsQuiet, IsQuietIf, new_log, log_after, book_after, with_classes}
use Rattle.bay.specs.Restoring.{after_line, IsBack}
use Rattle.bay.specs.LineLaws.{IsCall}
use Rattle.bay.specs.Rooms.{Stops, Tells}
use Rattle.bay.specs.Bays.{BayView, IsKept, IsBayCall, IsWhole, StaysWhole}
use Rattle.bay.proofs.Members.{place_of}
use Rattle.bay.proofs.Ended.{above_all}
use Rattle.bay.proofs.NewFile.{tied_by}
use Rattle.bay.proofs.Turned.{written_turned, safe_turned, all_of_it}
use Rattle.bay.proofs.Through.{IsKeptByChanges, goes_on, through_asks, through_ends, through_leaves, through_goes, through_comes_back, through_passes, through_stops, through_tells}
use Rattle.bay.proofs.Written.{written_add, written_hold, written_over, written_gone, written_back, written_heard, written_purge, written_reach, written_fresh}
use Rattle.bay.proofs.LogLines.{stands_now}
use Rattle.bay.proofs.Stays.{stays_written}
use Rattle.bay.proofs.Given.{writes_give}
use Rattle.bay.proofs.SafeLines.{HoldsBy, safe_now, stays_safe, given_is_written}

-- ---- the calls of a room

record IsWholeBook (lines : List Line) (durable : ℕ) (x : BookView) : Type 0 where
  sound : IsSound x
  written : IsWritten lines x
  same : x.durable ≡ durable

whole_kept : (lines : List Line) (durable : ℕ) → IsKeptByChanges true (IsWholeBook lines durable)
whole_kept lines durable = record {
  adds = λ x number class owner deadline limit now fits t.
      let above = above_all x number fits in
      record {
        sound = sound_add x number class owner deadline limit now above t.sound;
        written = written_add lines x number class owner deadline limit now above t.written;
        same = t.same;
      };
  holds = λ x place needs now inside w t.
      record {
        sound = sound_hold x place needs now true inside w t.sound;
        written = written_hold lines x place needs now true t.sound inside w refl t.written;
        same = t.same;
      };
  ends = λ x place how now inside goes t.
      let a = ask_at x.asks place in
      record {
        sound = sound_set x place (over how now a) inside refl refl (omega arith) (sound_over x.durable how now a) t.sound;
        written = written_over lines x place how now t.sound inside goes t.written;
        same = t.same;
      };
  goes = λ x place moment inside t.
      let a = ask_at x.asks place in
      record {
        sound = sound_set x place (gone_since moment a) inside refl refl (omega arith) (sound_gone x.durable moment a (t.sound.each place no_ask inside)) t.sound;
        written = written_gone lines x place moment t.sound inside t.written;
        same = t.same;
      };
  comes = λ x place inside t.
      let a = ask_at x.asks place in
      record {
        sound = sound_set x place (back_again a) inside refl refl (omega arith) (sound_back x.durable a (t.sound.each place no_ask inside)) t.sound;
        written = written_back lines x place t.sound inside t.written;
        same = t.same;
      };
  hears = λ x place what inside due t.
      let a = ask_at x.asks place in
      record {
        sound = sound_set x place (hearing what a) inside refl refl (omega arith) (sound_hearing x.durable a what due (t.sound.each place no_ask inside)) t.sound;
        written = written_heard lines x place what t.sound inside t.written;
        same = t.same;
      };
  purges = λ x t. record { sound = sound_purge x t.sound; written = written_purge lines x t.written; same = t.same };
}

-- the same classes, and such a book
record IsWholeRoom (lines : List Line) (old new : RoomView) : Type 0 where
  classes : new.classes ≡ old.classes
  book : IsWholeBook lines old.book.durable new.book

whole_call : (lines : List Line) (now : ℕ) (old new : RoomView) → old.terms.keeps ≡ true → IsCall now old new → IsWholeBook lines old.book.durable old.book
    → IsWholeRoom lines old new
whole_call lines now old new keeps call t =
    let P : BookView → Type 0 = IsWholeBook lines old.book.durable in
    let k : IsKeptByChanges old.terms.keeps P = subst (λ (b : Bool). IsKeptByChanges b P) (sym keeps) (whole_kept lines old.book.durable) in
    let classes : RoomView → List Class = λ r. r.classes in
    elim call [
      | inl c ↦ record { classes = ap classes c.2.goes_on.same; book = through_asks P old k c.0 c.1 now new c.2 t }
      | inr a ↦ elim a [
        | inl c ↦ record { classes = ap classes c.2.goes_on.same; book = through_ends P old k c.0 c.1 now new c.2 t }
        | inr b ↦ elim b [
          | inl c ↦ record {
            classes = elim c.1 [ inl h ↦ ap classes h.2.same | inr h ↦ ap classes h.1.same ];
            book = through_leaves P old k c.0 now new c.1 t;
          }
          | inr d ↦ elim d [
            | inl c ↦ record { classes = ap classes c.1.2.same; book = through_goes P old k c.0 now new c.1 t }
            | inr e ↦ elim e [
              | inl c ↦ record { classes = ap classes c.3.2.same; book = through_comes_back P old k c.0 c.1 now new (Some c.2) c.3 t }
              | inr c ↦ record { classes = ap classes c.same; book = through_passes P old k now new c t }
            ]
          ]
        ]
      ]
    ]

whole_stops : (lines : List Line) (now : ℕ) (old new : RoomView) → old.terms.keeps ≡ true → Stops now old new → IsWholeBook lines old.book.durable old.book
    → IsWholeRoom lines old new
whole_stops lines now old new keeps c t =
    let P : BookView → Type 0 = IsWholeBook lines old.book.durable in
    let k : IsKeptByChanges old.terms.keeps P = subst (λ (b : Bool). IsKeptByChanges b P) (sym keeps) (whole_kept lines old.book.durable) in
    record { classes = ap (λ (r : RoomView). r.classes) c.2.same; book = through_stops P old k now new c t }

whole_tells : (lines : List Line) (done : ℕ) (told : Option Told) (old new : RoomView) → old.terms.keeps ≡ true → Tells done old told new
    → IsWholeBook lines old.book.durable old.book → IsWholeRoom lines old new
whole_tells lines done told old new keeps c t =
    let P : BookView → Type 0 = IsWholeBook lines old.book.durable in
    let k : IsKeptByChanges old.terms.keeps P = subst (λ (b : Bool). IsKeptByChanges b P) (sym keeps) (whole_kept lines old.book.durable) in
    record {
      classes = elim c [ inl h ↦ ap (λ (r : RoomView). r.classes) h.2 | inr h ↦ ap (λ (r : RoomView). r.classes) h.2 ];
      book = through_tells P old k done new told c t;
    }

-- ---- the calls of a bay

whole_room : (old new : BayView) → new.log ≡ old.log → IsWhole old → IsWholeRoom old.log.lines old.room new.room → IsWhole new
whole_room old new log w r =
    let same : old.log.lines ≡ new.log.lines = ap (λ (l : LogView). l.lines) (sym log) in
    record {
      written = subst (λ (l : List Line). IsWritten l new.room.book) same r.book.written;
      safe = subst (λ (d : ℕ). StaySafe new.room.classes new.log.lines d) (sym r.book.same)
          (subst (λ (c : List Class). StaySafe c new.log.lines old.room.book.durable) (sym r.classes)
          (subst (λ (l : List Line). StaySafe old.room.classes l old.room.book.durable) same w.safe));
    }

book_of : (old : BayView) → IsKept old → IsWhole old → IsWholeBook old.log.lines old.room.book.durable old.room.book
book_of old k w = record { sound = k.room.book; written = w.written; same = refl }

-- in a new file
whole_turns : (classes : List Class) (now : ℕ) (text : List ℕ) (old new : BayView) → IsKept old → old.room.terms.keeps ≡ true
    → Turns classes now text old new → IsWhole old → IsWhole new
whole_turns classes now text old new k keeps c w =
    let x = old.room in let log = new_log x.book old.log in let at = end_of log in let mid = turn x.book at in let durable = mid.durable in
    let quiet : IsQuiet x.book old.log = subst (λ (b : Bool). IsQuietIf b x.book old.log) keeps c.quiet in
    let log_is : new.log ≡ log = subst (λ (b : Bool). new.log ≡ log_after b x.book old.log) keeps c.log_is in
    let changes : Changes classes now mid x new.room = subst (λ (b : Bool). Changes classes now (book_after b x.book old.log) x new.room) keeps c.changes in
    let P : BookView → Type 0 = IsWholeBook log.lines durable in
    let kept : IsKeptByChanges x.terms.keeps P = subst (λ (b : Bool). IsKeptByChanges b P) (sym keeps) (whole_kept log.lines durable) in
    let book = goes_on P (with_classes x classes) kept now (core x.line mid) new.room changes (record {
      sound = sound_turn x.book at k.room.book;
      written = written_turned x.book old.log k.room.book w.written quiet.0;
      same = refl;
    }) in
    let same : log.lines ≡ new.log.lines = ap (λ (l : LogView). l.lines) (sym log_is) in
    let classes_are : new.room.classes ≡ classes = ap (λ (r : RoomView). r.classes) changes.same in
    record {
      written = subst (λ (l : List Line). IsWritten l new.room.book) same book.written;
      safe = subst (λ (d : ℕ). StaySafe new.room.classes new.log.lines d) (sym book.same)
          (subst (λ (z : List Class). StaySafe z new.log.lines durable) (sym classes_are)
          (subst (λ (l : List Line). StaySafe classes l durable) same
          (safe_turned classes x.line x.book old.log k.room.book (tied_by x.classes classes (core_of x) c.may k.room.room.tied))));
    }

whole_calls : (old new : BayView) → IsKept old → IsKept new → old.room.terms.keeps ≡ true → IsBayCall old new → IsWhole old → IsWhole new
whole_calls old new k kn keeps (inl c) w =
    whole_room old new c.1 w (elim c.0.1 [
      | inl call ↦ whole_call old.log.lines c.0.0 old.room new.room keeps call (book_of old k w)
      | inr stops ↦ whole_stops old.log.lines c.0.0 old.room new.room keeps stops (book_of old k w)
    ])
whole_calls old new k kn keeps (inr (inl c)) w =
    whole_room old new c.1 w (whole_tells old.log.lines c.0.0 c.0.1 old.room new.room keeps c.0.2 (book_of old k w))
whole_calls old new k kn keeps (inr (inr (inl c))) w =
    let x = pages old.room.book old.log in let y = pages new.room.book new.log in
    let g = writes_give c.0 x y k.room.book c.1.writes in
    record {
      written = given_is_written.written x y k.standing k.room.book w.written g;
      safe = subst (λ (z : List Class). StaySafe z new.log.lines new.room.book.durable) (sym (ap (λ (r : RoomView). r.classes) c.1.same))
          (given_is_written.safe old.room.classes old.room.line x y k.standing k.room.book w.written k.room.room.tied w.safe g);
    }
whole_calls old new k kn keeps (inr (inr (inr (inl c)))) w =
    let number = c.0 in let text = c.1 in let at = c.2.1 in let book = old.room.book in
    let are : AreLines (old.log.lines ++ Note number text ∷ []) = subst (λ (x : BayView). AreLines x.log.lines) c.3 kn.standing.lines in
    let below : (ask_at book.asks c.2.0).number < book.next = k.room.book.below c.2.0 no_ask at.inside in
    let less : number < book.next = subst (λ n. n < book.next) at.its below in
    subst IsWhole (sym c.3) (record {
      written = stays_written.note old.log.lines book number text are less w.written;
      safe = stays_safe.safe_note old.room.classes old.log.lines number text book.durable are w.safe;
    })
whole_calls old new k kn keeps (inr (inr (inr (inr (inl c))))) w = subst IsWhole (sym c) (record { written = w.written; safe = w.safe })
whole_calls old new k kn keeps (inr (inr (inr (inr (inr (inl c)))))) w =
    let book = old.room.book in let later = reach book c.0 in
    let lines : old.log.lines ≡ new.log.lines = ap (λ (l : LogView). l.lines) (sym c.2) in
    record {
      written = subst (λ (r : RoomView). IsWritten new.log.lines r.book) (sym c.1)
          (subst (λ (l : List Line). IsWritten l later) lines (written_reach old.log.lines book c.0 w.written));
      safe = subst (λ (r : RoomView). StaySafe r.classes new.log.lines r.book.durable) (sym c.1)
          (subst (λ (l : List Line). StaySafe old.room.classes l later.durable) lines
          (stays_safe.safe_later old.room.classes old.log.lines book.durable later.durable (omega arith) w.safe));
    }
whole_calls old new k kn keeps (inr (inr (inr (inr (inr (inr (inl c))))))) w = subst IsWhole (sym c) (record { written = w.written; safe = w.safe })
whole_calls old new k kn keeps (inr (inr (inr (inr (inr (inr (inr c))))))) w = whole_turns c.0 c.1 c.2 old new k keeps c.3 w

-- ---- a bay that comes back

at_isnt_none : (m : Mark) (p : ℕ) → m ≡ At p → m ≡ NoLine → ⊥
at_isnt_none m p a b = cc

bound_by : (line : Line) (next : ℕ) → after_line line ≤ next → bound_of line ≤ 18446744073709551615 → bound_of line ≤ next
bound_by (Head bay base after granted) next le fits = le
bound_by (HoldLine ask entry) next le fits = omega (arith, le, fits)
bound_by (Back from to) next le fits = omega (arith, le, fits)
bound_by (EndLine ask how at) next le fits = omega (arith, le, fits)
bound_by (Note ask text) next le fits = omega (arith, le, fits)

whole_back : (limit most now : ℕ) (x : BayView) → IsKept x → IsBack x.log.lines limit most now (end_of x.log) x.room
    → ((line : Line) → Has x.log.lines line → bound_of line ≤ 18446744073709551615) → IsWhole x
whole_back limit most now x k b fits =
    let lines = x.log.lines in let book = x.room.book in let s = k.room.book in
    let by : (n : ℕ) (e : Entry) → alive lines n ≡ Some e → HoldsBy book n e = λ n e h.
    (let d = b.all n e h in record { ask = d.0; has = d.1; holds = (b.each d.0 d.1).holds; number = d.2; entry = d.3 }) in
    let safe = safe_now x.room.classes x.room.line lines book s k.room.room.tied by in
    let durable = b.durable in
    record {
      written = record {
        stand = λ a at h mark g.
            let r = b.each a h in
            let same : end_of x.log ≡ at = (let two : At (end_of x.log) ≡ At at = sym r.line ∙ mark in cc) in
            record { entry = entry_of a; stands = stands_now lines at a.number (entry_of a) (omega (arith, same)) r.by_log; same = λ holds. refl };
        only = λ n e h.
            let d = b.all n e h in let r = b.each d.0 d.1 in
            let p = place_of book.asks d.0 no_ask d.1 in
            let sound : IsSoundAsk book.durable d.0 = subst (IsSoundAsk book.durable) p.2 (s.each p.0 no_ask p.1) in
            let at : IsSoundAt book.durable d.0 Holds = subst (IsSoundAt book.durable d.0) r.holds sound in
            (d.0, d.1, d.2, record { begun = ap is_given r.line; goes_on = ap is_given at.2 });
        kept = λ a h holds none. at_isnt_none a.hold_line (end_of x.log) (b.each a h).line none;
        ends = λ a h o g. absurd (false≢true (ap is_over (sym (b.each a h).holds) ∙ o));
        unused = λ a h m. absurd (false≢true (sym m ∙ ap is_given (b.each a h).line));
        below = λ line h.
            let p = place_of lines line line h in
            bound_by line book.next (subst (λ (l : Line). after_line l ≤ book.next) p.2 (b.next p.0 line p.1)) (fits line h);
      };
      safe = record {
        sure = lines;
        begins = ([], sym (append-nil lines));
        within = omega (arith, durable);
        safe = λ front f from. subst (AreSafe x.room.classes) (all_of_it lines front f from) safe;
      };
    }

-- ---- the law

pub stays_whole : StaysWhole
stays_whole = record {
  opens = λ classes terms limit most head x room log.
      let book : x.room.book ≡ nobody = ap (λ (r : RoomView). r.book) room in
      let lines : x.log.lines ≡ (beginning head 0 0 0).lines = ap (λ (l : LogView). l.lines) log in
      record {
        written = subst (λ (l : List Line). IsWritten l x.room.book) (sym lines)
            (subst (IsWritten (beginning head 0 0 0).lines) (sym book) (written_fresh head 0 0 0 0));
        safe = subst (λ (l : List Line). StaySafe x.room.classes l x.room.book.durable) (sym lines)
            (stays_safe.safe_begins x.room.classes head 0 0 0 x.room.book.durable (omega arith));
      };
  calls = whole_calls;
  back = λ classes terms limit most head bytes now used x k r below.
      whole_back limit most now x k
      (subst (λ (l : List Line). IsBack l limit most now (end_of x.log) x.room) (sym (ap (λ (l : LogView). l.lines) r.log)) r.back) below;
}
