-- A frame put together, and what it is made of.
use Rattle.std.proofs.Common.{◌≡◌, ℕ, true, suc, ◌+◌, ◌-◌, ◌<◌, ◌≤◌, List, [], ◌∷◌, ◌++◌, length, get_or, take, drop, set, sym, ap, ◌∙◌, subst, arith}
use borrow.Rule.Slice.PartMut.{put_mid}
use Rattle.std.specs.List.{AllByRecursion as All}
use Rattle.std.proofs.lemmas.List.{drop_more, drop_all, set_at, take_at, take-append-drop, append_assoc, length-append, length-take-le}
use Rattle.std.proofs.ByRecursion.{All-get_or, All-append}
use Rattle.std.proofs.lemmas.List.Sums.{sum_by_push}
use Rattle.frame.specs.Seal.{Sealed, all_bytes, check_byte, framed, kind_of, length_byte, payload_of}
use Rattle.frame.specs.Written.{fronted}
use Rattle.frame.proofs.Bytes.{below_each}
use Rattle.frame.proofs.Sums.{sealed}

-- The kind and the length byte are set, and the payload copied behind them.
pub body_front : (bs payload : List ℕ) (k n : ℕ) → length payload ≡ n → n + 2 ≤ length bs → put_mid 2 (n + 2 - 2) (set (set bs 0 k) 1 n) payload ≡ (k ∷ n ∷ payload) ++ drop (n + 2) bs
body_front [] payload k n len room = absurd (omega arith)
body_front (x ∷ []) payload k n len room = absurd (omega arith)
body_front (x ∷ y ∷ rest) payload k n len room =
    let m : n + 2 - 2 ≡ n = omega arith in
    let s : n + 2 ≡ suc (suc n) = omega arith in
    rw (m, s)

-- One byte more behind what stands at the front.
pub front_more : (body bs : List ℕ) (n b : ℕ) → length body ≡ n → n < length bs → set (body ++ drop n bs) n b ≡ fronted (body ++ b ∷ []) bs
front_more body bs n b len room =
    let longer : length (body ++ b ∷ []) ≡ n + 1 = omega (arith, length-append body (b ∷ [])) in
    ap (λ l. set (body ++ l) n b) (drop_more bs n 0 room)
    ∙ set_at body (get_or bs n 0) (drop (n + 1) bs) b n len
    ∙ sym (append_assoc body (b ∷ []) (drop (n + 1) bs))
    ∙ ap (λ m. (body ++ b ∷ []) ++ drop m bs) (sym longer)

-- The check byte behind the body completes the frame.
pub frame_front : (bs front payload : List ℕ) (kind n check : ℕ) → length payload ≡ n → n + 2 < length bs → front ≡ (kind ∷ n ∷ payload) ++ drop (n + 2) bs → check ≡ check_byte (take (n + 2 - 0) front) → take (n + 3) (set front (n + 2) check) ≡ (kind ∷ n ∷ payload) ++ check_byte (kind ∷ n ∷ payload) ∷ []
frame_front bs front payload kind n check len room is seals =
    let body = kind ∷ n ∷ payload in
    let long : length body ≡ n + 2 = omega arith in
    let longer : length (body ++ check ∷ []) ≡ n + 3 = omega (arith, length-append payload (check ∷ [])) in
    let all : n + 2 - 0 ≡ n + 2 = omega arith in
    let whole : take (n + 2 - 0) front ≡ body = ap (λ m. take m front) all ∙ ap (take (n + 2)) is ∙ take_at body (drop (n + 2) bs) (n + 2) long in
    ap (λ l. take (n + 3) (set l (n + 2) check)) is
    ∙ ap (take (n + 3)) (front_more body bs (n + 2) check long room)
    ∙ take_at (body ++ check ∷ []) (drop (length (body ++ check ∷ [])) bs) (n + 3) longer
    ∙ ap (λ b. body ++ b ∷ []) (seals ∙ ap check_byte whole)

pub sealed_framed : (kind : ℕ) (payload : List ℕ) → Sealed (framed kind payload)
sealed_framed kind payload = sealed (kind ∷ length payload ∷ payload)

-- The check byte is the only one that seals.
check_only : (body : List ℕ) (b : ℕ) → b < 256 → Sealed (body ++ b ∷ []) → b ≡ check_byte body
check_only body b fits checked = let more = sum_by_push (λ x. x) body b in omega arith

last_alone : (rest : List ℕ) (m : ℕ) → length rest ≡ m + 1 → rest ≡ take m rest ++ get_or rest m 0 ∷ []
last_alone rest m len =
    sym (take-append-drop m rest)
    ∙ ap (λ l. take m rest ++ l) (drop_more rest m 0 (omega arith) ∙ ap (λ l. get_or rest m 0 ∷ l) (drop_all (m + 1) rest (omega arith)))

-- A frame whose length byte counts its payload is the one frame of its kind and payload.
pub whole : (frame : List ℕ) → 3 ≤ length frame → all_bytes frame ≡ true → Sealed frame → length_byte frame ≡ length frame - 3 → frame ≡ framed (kind_of frame) (payload_of frame)
whole [] least fit checked says = absurd (omega arith)
whole (k ∷ []) least fit checked says = absurd (omega arith)
whole (k ∷ n ∷ rest) least fit checked says =
    let m = length (k ∷ n ∷ rest) - 3 in
    let last = get_or rest m 0 in
    let payload = take m rest in
    let long : length rest ≡ m + 1 = omega arith in
    let split = last_alone rest m long in
    let len : length payload ≡ n = length-take-le m rest (omega arith) ∙ sym says in
    let fits : last < 256 = All-get_or (λ b. b < 256) rest m 0 (omega arith) (below_each (k ∷ n ∷ rest) fit).1.1 in
    let seal : last ≡ check_byte (k ∷ n ∷ payload) = check_only (k ∷ n ∷ payload) last fits (subst (λ l. Sealed (k ∷ n ∷ l)) split checked) in
    ap (λ l. k ∷ n ∷ l) split ∙ ap (λ b. k ∷ n ∷ (payload ++ b ∷ [])) seal ∙ ap (λ c. k ∷ c ∷ (payload ++ check_byte (k ∷ c ∷ payload) ∷ [])) (sym len)

-- A frame is made of bytes.
pub framed_below : (kind : ℕ) (payload : List ℕ) → kind < 256 → length payload < 256 → All (λ b. b < 256) payload → All (λ b. b < 256) (framed kind payload)
framed_below kind payload k n fit =
    (k, (n, All-append (λ b. b < 256) payload (check_byte (kind ∷ length payload ∷ payload) ∷ []) fit (omega arith, tt)))
