-- The reading of a frame that passes the tests of its fields.
use Rattle.std.proofs.Common.{◌≡◌, ℕ, ◌<◌, ◌≤◌, true, List, ◌∷◌, Some, None, sym, ap, subst, arith}
use Rattle.std.specs.List.{AllByRecursion as All}
use Rattle.std.proofs.lemmas.Bool.{and_from, le-leb, lt-ltb, le-ltb}
use Rattle.std.proofs.lemmas.Bool.Decides.{nat_tests}
use Rattle.std.proofs.ByRecursion.{All-weaker}
use Rattle.reading.specs.Demand.{kw_nearest, load_of}
use Rattle.reading.specs.Limits.{lawful}
use Rattle.reading.specs.declared.entry.Entry.{Entry}
use Rattle.reading.specs.declared.fault.Fault.TheVariants.{OffHours, PeakDemand}
use Rattle.reading.proofs.Greatest.{load_bound}
use Rattle.frame.specs.Seal.{field}
use Rattle.reading.specs.First.{or_else}
use Rattle.frame.proofs.Firsts.{passes}
use Rattle.request.specs.Fields.{entry_in, earlier_in, reading_limits}
use Rattle.request.specs.Tests.{limit_test, excess_test}
use Rattle.request.proofs.Limits.{all_within}

-- Entries are equal field by field.
pub same_entry : (m s f p k o d q v l m' s' f' p' k' o' d' q' v' l' : ℕ) → m ≡ m' → s ≡ s' → f ≡ f' → p ≡ p' → k ≡ k' → o ≡ o' → d ≡ d' → q ≡ q' → v ≡ v' → l ≡ l' → ◌≡◌ {A = Entry} (record { meter = m; schedule = s; flags = f; power_factor = p; kwh = k; off_hours = o; demand = d; peak_demand = q; kvar = v; load = l }) (record { meter = m'; schedule = s'; flags = f'; power_factor = p'; kwh = k'; off_hours = o'; demand = d'; peak_demand = q'; kvar = v'; load = l' })
same_entry m s f p k o d q v l m' s' f' p' k' o' d' q' v' l' em es ef ep ek eo ed eq ev el = cc

-- Of a frame that passes the limits.
pub record Within (frame : List ℕ) : Type 0 where
  pub flags : field frame 13 1 ≤ 15
  pub kwh : field frame 14 4 ≤ 999999
  pub demand : field frame 22 4 ≤ 99999
  pub peak : field frame 26 4 ≤ 99999
  pub kvar : field frame 30 2 ≤ 9999
  pub factor : field frame 32 1 ≤ 100
  pub earlier : All (λ d. d ≤ 9999) (earlier_in frame)

pub within : (frame : List ℕ) → None ≡ limit_test reading_limits frame → Within frame
within frame h =
    let a = all_within reading_limits frame (sym h) in
    record {
      flags = a.1.0;
      kwh = a.1.1.0;
      demand = a.1.1.1.0;
      peak = a.1.1.1.1.0;
      kvar = a.1.1.1.1.1.0;
      factor = a.1.1.1.1.1.1.0;
      earlier = a.1.1.1.1.1.1.1;
    }

kw_bound : (tenths : ℕ) → tenths ≤ 99999 → kw_nearest tenths ≤ 10000
kw_bound tenths h = grind (arith, nat_tests)

load_within : (frame : List ℕ) → Within frame → load_of (kw_nearest (field frame 22 4) ∷ earlier_in frame) ≤ 10000
load_within frame w =
    load_bound 10000 (kw_nearest (field frame 22 4) ∷ earlier_in frame)
    (kw_bound (field frame 22 4) w.demand, All-weaker (λ d. d ≤ 9999) (λ d. d ≤ 10000) (λ d h. omega arith) (earlier_in frame) w.earlier)

module _ (frame : List ℕ) (e : Entry) (is : e ≡ entry_in frame) (limits : None ≡ limit_test reading_limits frame) where
  off_hours : e.off_hours ≡ field frame 18 4
  off_hours = ap (λ x. x.off_hours) is

  kwh : e.kwh ≡ field frame 14 4
  kwh = ap (λ x. x.kwh) is

  peak : e.peak_demand ≡ field frame 26 4
  peak = ap (λ x. x.peak_demand) is

  demand : e.demand ≡ field frame 22 4
  demand = ap (λ x. x.demand) is

  pub off_hours_exceed : e.kwh < e.off_hours → Some OffHours ≡ or_else (limit_test reading_limits frame) (excess_test frame)
  off_hours_exceed over =
      let more : field frame 14 4 < field frame 18 4 = omega (arith, kwh, off_hours) in
      passes (limit_test reading_limits frame) (excess_test frame) (Some OffHours) limits (rw (lt-ltb _ _ more))

  pub peak_exceeds : e.off_hours ≤ e.kwh → e.demand < e.peak_demand → Some PeakDemand ≡ or_else (limit_test reading_limits frame) (excess_test frame)
  peak_exceeds fine over =
      let most : field frame 18 4 ≤ field frame 14 4 = omega (arith, kwh, off_hours) in
      let more : field frame 22 4 < field frame 26 4 = omega (arith, demand, peak) in
      passes (limit_test reading_limits frame) (excess_test frame) (Some PeakDemand) limits (rw (le-ltb _ _ most, lt-ltb _ _ more))

  pub nothing_exceeds : e.off_hours ≤ e.kwh → e.peak_demand ≤ e.demand → None ≡ or_else (limit_test reading_limits frame) (excess_test frame)
  nothing_exceeds fine low =
      let most : field frame 18 4 ≤ field frame 14 4 = omega (arith, kwh, off_hours) in
      let least : field frame 26 4 ≤ field frame 22 4 = omega (arith, demand, peak) in
      passes (limit_test reading_limits frame) (excess_test frame) None limits (rw (le-ltb _ _ most, le-ltb _ _ least))

  pub lawful_in : e.off_hours ≤ e.kwh → e.peak_demand ≤ e.demand → lawful e ≡ true
  lawful_in fine low =
      let w = within frame limits in
      let load = load_within frame w in
      let most : field frame 18 4 ≤ field frame 14 4 = omega (arith, kwh, off_hours) in
      let least : field frame 26 4 ≤ field frame 22 4 = omega (arith, demand, peak) in
      subst (λ x. lawful x ≡ true) (sym is)
      (and_from _ _
      (and_from _ _ (le-leb _ _ w.flags)
      (and_from _ _ (le-leb _ _ w.kwh)
      (and_from _ _ (le-leb _ _ w.demand)
      (and_from _ _ (le-leb _ _ w.peak)
      (and_from _ _ (le-leb _ _ w.kvar)
      (and_from _ _ (le-leb _ _ w.factor) (le-leb _ _ load)))))))
      (and_from _ _ (le-leb _ _ most) (le-leb _ _ least)))
