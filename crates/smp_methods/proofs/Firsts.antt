-- A design starts so, whoever starts it: as a lemma, without a call.
use Rattle.std.proofs.Common.{◌≡◌, ℕ, zero, suc, ◌^◌, ◌<◌, true≢false, ℤ, List, [], ◌∷◌, length, get_or, arith, refl, ◌∙◌}
use Rattle.std.proofs.lemmas.List.{length-map}
use Rattle.smp_frac.specs.{Fractions.{Same}, Limits.{most_denominator}}
use Rattle.smp_frac.proofs.Arithmetic.{same_refl}
use Rattle.smp_prob.specs.{declared.orders.Order.{Order}, declared.requests.Request.{Request}, Requests.{IsRequest}}
use Rattle.smp_prob.specs.Shares.{Shares, draws_of, numerators, shares_of}
use Rattle.smp_split.specs.{Counts.{LeavesSelectAround}, Methods.{Starts}, Orders.{ordered_tree}}
use Rattle.smp_values.specs.{InOrder.{LawfulRule, StepRule, placed_method, places_tree}, Starts.{IsRequested, ordered_values}}
use Rattle.smp_values.specs.Values.{IsValues, exchanged_values, value_at}
use Rattle.smp_values.proofs.InOrder.{placed_around, placed_starts}
use Rattle.smp_values.proofs.Requests.{few_shares, requested_in_order, requested_values, shares_in_range, wider}
use Rattle.smp_design.specs.{declared.method.Method.{Method}, Words.{row}, declared.procedure.Procedure.{Procedure}}
use Rattle.smp_design.specs.declared.method.Method.TheVariants as method
use Rattle.smp_flight.specs.{Requests.{AreValues, units_of}, Selections.{IsBalancing, starting}, Laws.NextProperties.{started_flight}}
use Rattle.smp_flight.proofs.{Making.{units_are}, CubeStarts.{cube_starts, starts_requested as cube_requested}}
use Rattle.smp_localcube.proofs.Starts.{local_starts as local_cube_starts, starts_requested as local_cube_requested}
use Rattle.smp_localpiv.specs.Coordinates.{points_of}
use Rattle.smp_localpiv.proofs.Starts.{local_around, local_starts, starts_open, starts_requested as local_requested}
use Rattle.smp_stratcube.specs.{Layers.{IsLayer, Layer, no_layer}, Kept.Layers.{layer_of}}
use Rattle.smp_stratcube.specs.Units as strata
use Rattle.smp_stratcube.proofs.{Balances.{strat_balanced}, WholeStrata.{has_counts}, Layered.{units_are as layers_units}, Stored.{layer_is}}
use Rattle.smp_stratcube.proofs.Starting.{are_requested, strat_means}
use Rattle.smp_pivotal.specs.{Pivotal.{pivotal_rule}, Laws.PivotalSplits.{pivotal_law}, Systematic.{systematic_rule}}
use Rattle.smp_pivotal.specs.Laws.SystematicSplits.{systematic_law}
use Rattle.smp_minsup.specs.Support.{support_tree}
use Rattle.smp_minsup.proofs.{FewLeaves.{support_starts}, Requests.{belongs_requested}}
use Rattle.smp_brewer.proofs.{First.{first_offers}, Starts.{brewing_starts, starts_requested as brewing_requested}}
use Rattle.smp_elim.proofs.Starting.{are_sizes, begun_at, drawn_within, starts_requested as elimination_requested}
use Rattle.smp_methods.specs.{declared.any.AnyDesign.{AnyDesign}, Designs.{design_of, first_state}, Procedures.{NeedsWhole, TakesValues}}
use Rattle.smp_methods.specs.Starts.{IsStarted}
use Rattle.smp_methods.proofs.{OneStratum.{are_layers, are_numbers, one_requested}, Starts.{is_started}}

module _ (order : Order) (balance near : ℕ) (request : Request) (values points : List (List ℤ)) (is : IsRequest request) where
  abbrev way : Method → Procedure
  way m = record { method = m; order = order; balance = balance; near = near }

  abbrev so : Method → AnyDesign
  so m = design_of (way m) request values points

  abbrev First : Method → Type 0
  First m = NeedsWhole (way m) request → TakesValues (way m) request values points → IsStarted (way m) request values points (record { design = so m; state = first_state (so m) })

  abbrev shares : Shares
  shares = shares_of request

  abbrev units : ℕ
  units = length (numerators request)

  flies : length values ≡ length request.free → AreValues values → IsBalancing (units_of request values) (starting (units_of request values))
  flies one_each are = started_flight (units_of request values) (units_are request is values one_each are)

  own_value : (k : ℕ) → Same (value_at shares k) (value_at shares k)
  own_value k = same_refl (value_at shares k)

  -- by steps at places: where it starts, of which the rest is told by the method alone
  module _ (rule : StepRule) (law : LawfulRule rule) where
    placed_ok : IsValues units rule.most shares
    placed_ok = wider units most_denominator rule.most shares law.wide (shares_in_range request is)

    placed : Starts (placed_method rule law.lawful (ordered_values order shares)) (ordered_values order shares)
    placed = placed_starts rule law order shares (few_shares request is) placed_ok

    around : LeavesSelectAround (placed_method rule law.lawful (ordered_values order shares)).tree (ordered_values order shares)
    around = placed_around rule law order shares (few_shares request is) placed_ok

    asked : IsRequested (ordered_tree (places_tree rule units) exchanged_values) request (ordered_values order shares)
    asked = requested_in_order request is (places_tree rule units) order refl own_value

  by_pivotal : First method.Pivotal
  by_pivotal whole takes =
      let starts = placed pivotal_rule pivotal_law in
      is_started (way method.Pivotal) request values points (so method.Pivotal) (first_state (so method.Pivotal)) whole refl
      (asked pivotal_rule pivotal_law) refl starts.means.member (λ _. starts.count) tt (λ _ _. around pivotal_rule pivotal_law)

  by_systematic : First method.Systematic
  by_systematic whole takes =
      let starts = placed systematic_rule systematic_law in
      is_started (way method.Systematic) request values points (so method.Systematic) (first_state (so method.Systematic)) whole refl
      (asked systematic_rule systematic_law) refl starts.means.member (λ _. starts.count) tt (λ _ _. around systematic_rule systematic_law)

  by_support : First method.MinimumSupport
  unfolding row
  by_support whole takes =
      let starts = support_starts shares (belongs_requested request is whole.total) in
      is_started (way method.MinimumSupport) request values points (so method.MinimumSupport) (first_state (so method.MinimumSupport)) whole refl
      (requested_values request is (support_tree units) shares refl (λ k _. own_value k)) refl
      starts.means.member (λ _. starts.count) tt (λ any _. absurd (true≢false any))

  by_brewer : First method.Brewer
  unfolding row
  by_brewer whole takes =
      let starts = brewing_starts (record { sizes = request.shape; draws = draws_of request; refused = 0 }) (first_offers request is whole.total) in
      is_started (way method.Brewer) request values points (so method.Brewer) (first_state (so method.Brewer)) whole refl
      (brewing_requested request is whole.total) refl
      starts.means.member (λ _. starts.count) tt (λ any _. absurd (true≢false any))

  by_elimination : First method.Elimination
  unfolding row
  by_elimination whole takes =
      let few = drawn_within request is whole.total in
      let starts = (begun_at request.shape (draws_of request) (are_sizes request is whole.total (draws_of request) (omega arith)) few).starts in
      is_started (way method.Elimination) request values points (so method.Elimination) (first_state (so method.Elimination)) whole refl
      (elimination_requested request is whole.total few) refl
      starts.means.member (λ _. starts.count) tt (λ any _. absurd (true≢false any))

  by_local : First method.LocalPivotal
  unfolding row
  by_local whole takes =
      let coords : List (List ℤ) = points_of near points in
      let opens = starts_open request is coords near takes.columns.1 (length-map points _ ∙ takes.located takes.columns.1.0) in
      let starts = local_starts near coords shares opens in
      is_started (way method.LocalPivotal) request values points (so method.LocalPivotal) (first_state (so method.LocalPivotal)) whole refl
      (local_requested request is coords) refl
      starts.means.member (λ _. starts.count) tt (λ _ _. local_around near coords shares opens)

  by_cube : First method.Cube
  unfolding row
  by_cube whole takes =
      let starts = cube_starts (units_of request values) (flies (takes.paired takes.columns.0.0) takes.balancing) in
      is_started (way method.Cube) request values points (so method.Cube) (first_state (so method.Cube)) whole refl
      (cube_requested request values is) refl
      starts.means.member (λ _. starts.count) tt (λ _ balances. absurd (true≢false balances))

  by_local_cube : First method.LocalCube
  unfolding row
  by_local_cube whole takes =
      let coords : List (List ℤ) = points_of near points in
      let starts = local_cube_starts (record { units = units_of request values; coords = coords }) (flies (takes.paired takes.columns.0.0) takes.balancing) in
      is_started (way method.LocalCube) request values points (so method.LocalCube) (first_state (so method.LocalCube)) whole refl
      (local_cube_requested request values coords is) refl
      starts.means.member (λ _. starts.count) tt (λ _ balances. absurd (true≢false balances))

  by_strata : First method.StratifiedCube
  unfolding row
  by_strata whole takes =
      let layers : List Layer = layer_of request values ∷ [] in
      let one_each : length values ≡ length request.free = takes.paired takes.columns.0.0 in
      let all = are_layers request values is one_each takes.balancing in
      let each : (h : ℕ) → h < 1 → IsLayer (get_or layers h no_layer) = λ h l. one_layer one_each takes.balancing h l in
      let are = layers_units layers all each in
      is_started (way method.StratifiedCube) request values points (so method.StratifiedCube) (first_state (so method.StratifiedCube)) whole refl
      (one_requested request values is (are_requested layers all each)) refl
      (strat_means (strata.units_of layers) are).member (λ apart. absurd (true≢false apart)) (has_counts (strata.units_of layers) are, strat_balanced (strata.units_of layers) are)
      (λ _ balances. absurd (true≢false balances))
    where
      one_layer : length values ≡ length request.free → AreValues values → (h : ℕ) → h < 1 → IsLayer (get_or (layer_of request values ∷ []) h no_layer)
      one_layer count are zero l = layer_is request is values count (are_numbers values are)
      one_layer count are (suc h) l = absurd (omega (arith, l))

  first_by : (m : Method) → First m
  first_by method.Pivotal = by_pivotal
  first_by method.Systematic = by_systematic
  first_by method.MinimumSupport = by_support
  first_by method.Brewer = by_brewer
  first_by method.LocalPivotal = by_local
  first_by method.Cube = by_cube
  first_by method.Elimination = by_elimination
  first_by method.LocalCube = by_local_cube
  first_by method.StratifiedCube = by_strata

-- the design of a request by a procedure, at its first state
pub is_first : (way : Procedure) (request : Request) (values points : List (List ℤ)) → IsRequest request → NeedsWhole way request → TakesValues way request values points
    → IsStarted way request values points (record { design = design_of way request values points; state = first_state (design_of way request values points) })
is_first way request values points is = first_by way.order way.balance way.near request values points is way.method
