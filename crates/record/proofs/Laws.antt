-- The rules of a record one by one, and those of a record whose readings were edited.
use Rattle.std.proofs.Common.{◌≡◌, ℕ, ◌≤◌, true, ◌&&◌, eqb, leb, List, length, take, drop, ap, ◌∙◌, subst, arith}
use Rattle.std.specs.List.{list_all}
use Rattle.std.proofs.lemmas.List.{length-take-le}
use Rattle.std.proofs.lemmas.Bool.{and_parts, and_from, leb-true, le-leb, eqb-true, eq-eqb}
use Rattle.reading.specs.declared.entry.Entry.{Entry}
use Rattle.record.specs.declared.row.Row.{Row}
use Rattle.record.specs.Holding.{lawful_site_month, lawful_reading, lawful_holding}
use Rattle.record.specs.Meters.{rising}
use Rattle.record.specs.Rows.{holding, is_blank, padded, lawful_row}
use Rattle.record.specs.States.{used}

pub record Laws (row : Row) : Type 0 where
  pub in_use : used row.state ≡ true
  pub most : row.count ≤ 16
  pub long : length row.entries ≡ 16
  pub unused : list_all is_blank (drop row.count row.entries) ≡ true
  pub site_month : lawful_site_month row.at ≡ true
  pub least : 1 ≤ row.count
  pub each : list_all lawful_reading (take row.count row.entries) ≡ true
  pub order : rising (take row.count row.entries) ≡ true

pub laws : (row : Row) → lawful_row row ≡ true → Laws row
laws row h =
    let es = take row.count row.entries in
    let a = and_parts (used row.state) (padded row && lawful_holding (holding row)) h in
    let b = and_parts (padded row) (lawful_holding (holding row)) a.1 in
    let p = and_parts (leb row.count 16) (eqb (length row.entries) 16 && list_all is_blank (drop row.count row.entries)) b.0 in
    let q = and_parts (eqb (length row.entries) 16) (list_all is_blank (drop row.count row.entries)) p.1 in
    let d = and_parts (lawful_site_month row.at) (leb 1 (length es) && (leb (length es) 16 && (list_all lawful_reading es && rising es))) b.1 in
    let e = and_parts (leb 1 (length es)) (leb (length es) 16 && (list_all lawful_reading es && rising es)) d.1 in
    let f = and_parts (leb (length es) 16) (list_all lawful_reading es && rising es) e.1 in
    let g = and_parts (list_all lawful_reading es) (rising es) f.1 in
    let few = leb-true row.count 16 p.0 in
    let all = eqb-true (length row.entries) 16 q.0 in
    record {
      in_use = a.0;
      most = few;
      long = all;
      unused = q.1;
      site_month = d.0;
      least = subst (λ n. 1 ≤ n) (length-take-le row.count row.entries (omega arith)) (leb-true 1 (length es) e.0);
      each = g.0;
      order = g.1;
    }

pub lawful_from : (row : Row) → Laws row → lawful_row row ≡ true
lawful_from row h =
    let es = take row.count row.entries in
    let n = length-take-le row.count row.entries (omega arith) in
    and_from (used row.state) (padded row && lawful_holding (holding row)) h.in_use
    (and_from (padded row) (lawful_holding (holding row))
    (and_from (leb row.count 16) (eqb (length row.entries) 16 && list_all is_blank (drop row.count row.entries)) (le-leb row.count 16 h.most)
    (and_from (eqb (length row.entries) 16) (list_all is_blank (drop row.count row.entries)) (eq-eqb (length row.entries) 16 h.long) h.unused))
    (and_from (lawful_site_month row.at) (leb 1 (length es) && (leb (length es) 16 && (list_all lawful_reading es && rising es))) h.site_month
    (and_from (leb 1 (length es)) (leb (length es) 16 && (list_all lawful_reading es && rising es)) (le-leb 1 (length es) (omega arith))
    (and_from (leb (length es) 16) (list_all lawful_reading es && rising es) (le-leb (length es) 16 (omega arith))
    (and_from (list_all lawful_reading es) (rising es) h.each h.order)))))

-- Other readings in the same record.
pub edited : (row : Row) (count : ℕ) (entries es : List Entry) → Laws row → 1 ≤ count → count ≤ 16 → length entries ≡ 16 → list_all is_blank (drop count entries) ≡ true → take count entries ≡ es → list_all lawful_reading es ≡ true → rising es ≡ true → lawful_row (record { at = row.at; state = row.state; count = count; entries = entries }) ≡ true
edited row count entries es h least most long unused is each order =
    lawful_from (record { at = row.at; state = row.state; count = count; entries = entries })
    (record {
      in_use = h.in_use;
      most = most;
      long = long;
      unused = unused;
      site_month = h.site_month;
      least = least;
      each = ap (list_all lawful_reading) is ∙ each;
      order = ap rising is ∙ order;
    })
