-- An element put into a list or taken out of it by turning the part from a place on.
use Rattle.std.proofs.Common.{◌≡◌, ℕ, ◌+◌, ◌-◌, ◌<◌, List, [], ◌∷◌, ◌++◌, length, get_or, take, drop, set, sym, ap, ◌∙◌, ap₂, arith}
use borrow.Rule.Slice.PartMut.{put_mid, mid_of}
use lib.Seq.{set-append_seam}
use Rattle.std.specs.List.{insert, remove}
use Rattle.std.proofs.lemmas.List.Edits.{length-remove}
use Rattle.std.proofs.lemmas.List.{length-drop, length-take-le, take-take, take_all, drop_all, drop_more, drop-take, set-append_right, append-nil}
use Rattle.std.proofs.lemmas.Slice.{put_mid-rotated}

module _ {X : Type 0} (xs : List X) (k : ℕ) (e : X) (turned : List X) (within : k < length xs) where
  abbrev part : List X
  part = mid_of k (length xs - k) xs

  -- By one to the right, and its first then set.
  module _ (is : turned ≡ drop (length part - 1) part ++ take (length part - 1) part) where
    -- All of the part but its last, and its last.
    abbrev front : List X
    front = take (length xs - k - 1) (drop k xs)

    abbrev last : X
    last = get_or (drop k xs) (length xs - k - 1) e

    long : length (drop k xs) ≡ length xs - k
    long = length-drop k xs

    part_is : part ≡ drop k xs
    part_is = take_all (length xs - k) (drop k xs) (omega (arith, long))

    last_is : drop (length xs - k - 1) (drop k xs) ≡ last ∷ []
    last_is =
        drop_more (drop k xs) (length xs - k - 1) e (omega (arith, long))
        ∙ ap (λ l. last ∷ l) (drop_all (length xs - k - 1 + 1) (drop k xs) (omega (arith, long)))

    turned_is : turned ≡ last ∷ front
    turned_is =
        is
        ∙ ap (λ l. drop (length l - 1) l ++ take (length l - 1) l) part_is
        ∙ ap (λ m. drop (m - 1) (drop k xs) ++ take (m - 1) (drop k xs)) long
        ∙ ap (λ l. l ++ front) last_is

    front_is : front ≡ drop k (take (length xs - 1) xs)
    front_is = let on : k + (length xs - k - 1) ≡ length xs - 1 = omega arith in sym (drop-take k (length xs - k - 1) xs) ∙ ap (λ m. drop k (take m xs)) on

    pub inserted : set (put_mid k (length xs - k) xs turned) k e ≡ insert (take (length xs - 1) xs) k e
    inserted =
        let first : k - k ≡ 0 = omega arith in
        let none = drop_all (length xs - k) (drop k xs) (omega (arith, long)) in
        ap (λ l. set (put_mid k (length xs - k) xs l) k e) turned_is
        ∙ set-append_right (take k xs) ((last ∷ front) ++ drop (length xs - k) (drop k xs)) k k e (length-take-le k xs (omega arith)) (omega arith)
        ∙ ap (λ m. take k xs ++ set ((last ∷ front) ++ drop (length xs - k) (drop k xs)) m e) first
        ∙ ap₂ (λ a b. a ++ e ∷ b) (sym (take-take k (length xs - 1) xs (omega arith))) (ap (λ l. front ++ l) none ∙ append-nil front ∙ front_is)

  -- By one to the left, and its last then set.
  pub removed : turned ≡ drop 1 part ++ take 1 part → set (put_mid k (length xs - k) xs turned) (length xs - 1) e ≡ remove xs k ++ e ∷ []
  removed is =
      let last : length xs - 1 ≡ length (remove xs k) = let m = length-remove xs k within in omega arith in
      ap₂ (λ l m. set l m e) (put_mid-rotated k (length xs - k) xs turned e within (omega arith) is) last
      ∙ set-append_seam (remove xs k) (get_or xs k e) [] e
