-- How visits and acts make a turn.
use Rattle.std.proofs.Common.{◌≡◌, ◌≢◌, ℕ, ◌+◌, ◌≤◌, Bool, true, false, not, ◌&&◌, if◌then◌else◌, List, [], ◌∷◌, ◌++◌, length, filter, arith, refl, sym, ap, ◌∙◌, subst, cond, ◌||◌, ◌==◌}
use Rattle.std.proofs.lemmas.List.{map-append}
use Rattle.std.specs.List.{range_with_len}
use Rattle.std.proofs.lemmas.List.FromFn.{length-range_with_len}
use Rattle.legal_steps.specs.declared.event.Event.{Event}
use Rattle.lab_plan.specs.LabPlan.{LabPlan, edges, ends, edges_of}
use Rattle.legal_steps.specs.declared.edge_state.EdgeState.{EdgeState}
use Rattle.legal_steps.specs.declared.event.Event.TheVariants.{Look}
use Rattle.legal_steps.specs.State.{edge, drinking}
use Rattle.edge_word.specs.declared.moves.EdgeMoves.{EdgeMoves}
use Rattle.edge_word.specs.Moves.{events_of, is_nothing}
use Rattle.edge_rule.specs.DeskView.{DeskView, Adds, known, shown, waited, noted}
use Rattle.turns.specs.Patience.{is_waiting}
use Rattle.session_layer.specs.declared.turning.Visited.{Visited}
use Rattle.session_layer.specs.declared.turning.Visited.TheVariants as answers
use Rattle.session_layer.specs.declared.turning.Turned.{Turned}
use Rattle.turns.specs.Due.{AreDue}
use Rattle.turns.specs.Acts.{AreActs}
use Rattle.turns.specs.Turn.{Visit, is_done, is_lost, count, once}
use Rattle.session_layer.specs.Turn.{Visits, VisitsAll, Chosen, IsVisited, Along, IsActed, Took, Says, done_by, lost_by}

abbrev pub visit : ℕ → EdgeState → EdgeMoves → Bool → Visit
visit e x m lost = record { edge = e; saw = x; moves = m; lost = lost }

module _ (d m : DeskView) (e : ℕ) (x : EdgeState) (mv : EdgeMoves) (look : Adds d (Look d.job e x ∷ []) m) (due : AreDue m.plan (known m) m.job e mv) where
  pub visited_calm : is_nothing mv ≡ true → IsVisited d e answers.Calm m
  visited_calm is = record {
    visit = visit e x mv false;
    edge = refl;
    visits = record { looked = m; look = look; due = due; tries = subst (λ b. Chosen b (m ≡ m) (Adds m (events_of mv m.job e) m)) (sym is) refl };
    done = λ i. if not (is i) && true then 1 else 0;
    lost = λ i. if not (is i) && false then 1 else 0;
  }

  pub visited_done : (d' : DeskView) → is_nothing mv ≡ false → Adds m (events_of mv m.job e) d' → IsVisited d e answers.Done d'
  visited_done d' is adds = record {
    visit = visit e x mv false;
    edge = refl;
    visits = record { looked = m; look = look; due = due; tries = subst (λ b. Chosen b (d' ≡ m) (Adds m (events_of mv m.job e) d')) (sym is) adds };
    done = λ i. if not (is i) && true then 1 else 0;
    lost = λ i. if not (is i) && false then 1 else 0;
  }

  pub visited_lost : (d' : DeskView) (y : EdgeState) → is_nothing mv ≡ false → Adds m [] d'
      → y ≡ edge (shown d') e → y ≢ edge (known m) e → IsVisited d e answers.Lost d'
  visited_lost d' y is adds there other = record {
    visit = visit e x mv true;
    edge = refl;
    visits = record {
      looked = m;
      look = look;
      due = due;
      tries = subst (λ b. Chosen b (d' ≡ m) (Adds m [] d' × (edge (shown d') e ≢ edge (known m) e))) (sym is) (adds, (λ q. other (there ∙ q)));
    };
    done = λ i. if not (is i) && false then 1 else 0;
    lost = λ i. if not (is i) && true then 1 else 0;
  }

-- a visit leaves plan, job, table and clock
pub record Frame (d e : DeskView) : Type 0 where
  pub plan : e.plan ≡ d.plan
  pub job : e.job ≡ d.job
  pub table : e.table ≡ d.table
  pub clock : e.clock ≡ d.clock

tries_frame : (d : DeskView) (v : Visit) (d' : DeskView) (b c : Bool)
    → Chosen b (d' ≡ d) (Chosen c (Adds d [] d' × (edge (shown d') v.edge ≢ edge (known d) v.edge)) (Adds d (events_of v.moves d.job v.edge) d')) → Frame d d'
tries_frame d v d' true c t = record {
  plan = ap (λ (z : DeskView). z.plan) t;
  job = ap (λ (z : DeskView). z.job) t;
  table = ap (λ (z : DeskView). z.table) t;
  clock = ap (λ (z : DeskView). z.clock) t;
}
tries_frame d v d' false true t = record { plan = t.0.plan; job = t.0.job; table = t.0.table; clock = t.0.clock }
tries_frame d v d' false false t = record { plan = t.plan; job = t.job; table = t.table; clock = t.clock }

pub visits_frame : (d : DeskView) (v : Visit) (d' : DeskView) → Visits d v d' → Frame d d'
visits_frame d v d' t =
    let f = tries_frame t.looked v d' (is_nothing v.moves) v.lost t.tries in
    record { plan = f.plan ∙ t.look.plan; job = f.job ∙ t.look.job; table = f.table ∙ t.look.table; clock = f.clock ∙ t.look.clock }

pub visits-snoc : (d m d' : DeskView) (vs : List Visit) (v : Visit) → VisitsAll d vs m → Visits m v d' → VisitsAll d (vs ++ v ∷ []) d'
visits-snoc d m d' [] v is last = (d', subst (λ (z : DeskView). Visits z v d') is last, refl)
visits-snoc d m d' (x ∷ vs) v (n, first, later) last = (n, first, visits-snoc n m d' vs v later last)

count-snoc : (f : Visit → Bool) (vs : List Visit) (v : Visit) → count f (vs ++ v ∷ []) ≡ count f vs + (if f v then 1 else 0)
count-snoc f [] v = omega arith
count-snoc f (x ∷ vs) v = let e = count-snoc f vs v in omega (arith, e)

pub along_more : (d m d' : DeskView) (es : List ℕ) (e done lost : ℕ) (r : Visited) → Along d es done lost m
    → IsVisited m e r d' → Along d (es ++ e ∷ []) (done + done_by r) (lost + lost_by r) d'
along_more d m d' es e done lost r a v = let f = visits_frame m v.visit d' v.visits in record {
  visits = a.visits ++ v.visit ∷ [];
  edges = map-append (λ (x : Visit). x.edge) a.visits (v.visit ∷ []) ∙ (λ i. a.edges i ++ v.edge i ∷ []);
  all = visits-snoc d m d' a.visits v.visit a.all v.visits;
  done_is = (λ i. a.done_is i + sym v.done i) ∙ sym (count-snoc is_done a.visits v.visit);
  lost_is = (λ i. a.lost_is i + sym v.lost i) ∙ sym (count-snoc is_lost a.visits v.visit);
  plan = f.plan ∙ a.plan;
  job = f.job ∙ a.job;
  table = f.table ∙ a.table;
}

pub took : (d m n d' : DeskView) (w done lost acted : ℕ) (thirsty : Bool) (r : Turned) → Along d (edges_of d.plan d.job) done lost m
    → IsActed m w acted n → w ≡ waited d → thirsty ≡ is_waiting (drinking (known d) d.job) → d' ≡ noted n thirsty → Says r (done + acted) lost → Took d r d'
took d m n d' w done lost acted thirsty r a b is_w is_thirsty is_noted says = record {
  visits = a.visits;
  edges = a.edges;
  visited = m;
  all = a.all;
  acts = b.events;
  due = subst (λ z. AreActs m.plan (known m) m.job z b.events) is_w b.due;
  acted = n;
  does = b.does;
  noted_is = is_noted ∙ ap (noted n) is_thirsty;
  says = subst (λ (z : ℕ × ℕ). Says r z.0 z.1) (λ i. (a.done_is i + b.says i, a.lost_is i)) says;
}

shorter : {X : Type 0} (b : Bool) (x : X) (xs ys : List X) → length xs ≤ length ys → length (cond b (x ∷ xs) xs) ≤ length (x ∷ ys)
shorter true x xs ys h = omega (arith, h)
shorter false x xs ys h = omega (arith, h)

filter_short : (p : ℕ → Bool) (xs : List ℕ) → length (filter p xs) ≤ length xs
filter_short p [] = omega arith
filter_short p (x ∷ xs) = shorter (p x) x (filter p xs) xs (filter_short p xs)

pub few_own : (plan : LabPlan) (j : ℕ) → length (edges_of plan j) ≤ length (edges plan)
few_own plan j =
    let n = length-range_with_len 0 (length (edges plan)) in
    let h = filter_short (λ e. ((ends plan e).0 == j) || ((ends plan e).1 == j)) (range_with_len 0 (length (edges plan))) in
    omega (arith, n, h)

pub acted_once : (d : DeskView) (waited n : ℕ) (d' : DeskView) → IsActed d waited n d' → n ≤ 1
acted_once d waited n d' a = at a.events a.says where
  at : (events : List Event) → n ≡ once events → n ≤ 1
  at [] is = omega (arith, is)
  at (x ∷ xs) is = omega (arith, is)
