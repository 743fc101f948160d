-- Written by reference/definitions.py with seed 1: 100 sessions drawn at random, and what reference/exchange.py gives for each.
use Rattle.std.specs.Prelude.{List, [], ◌∷◌, pos, negsuc}
use Rattle.rules.specs.Prices.{low_end, midpoint}
use Rattle.rules.specs.Shares.{by_precedence, in_proportion}
use Rattle.worked.specs.Session.{Case, bid, bids, case, entry, gives, session}

abbrev pub drawn : List Case
drawn =
    case (session by_precedence low_end 0 0 (bids (bid 2 2 1 1 (pos 1000) 4 ∷ bid 2 1 2 0 (pos 1000) 4 ∷ bid 3 1 3 0 (pos 1000) 4 ∷ []) (bid 2 2 3 0 (pos 1000) 1 ∷ [])) (bids (bid 3 3 1 1 (pos 1000) 4 ∷ []) (bid 2 1 3 0 (pos 1000) 4 ∷ bid 3 3 3 0 (pos 1000) 2 ∷ [])))
    (gives (1 ∷ 0 ∷ 0 ∷ []) (1 ∷ []) (4 ∷ []) (2 ∷ 2 ∷ []) (pos 1000) (pos 1000) (pos 0) (pos 0) (entry 2 1 2 (pos 100) ∷ entry 2 2 3 (negsuc 99) ∷ entry 3 3 1 (pos 400) ∷ entry 3 3 3 (negsuc 199) ∷ entry 2 1 3 (negsuc 199) ∷ entry 0 0 0 (pos 0) ∷ []) (pos 0) (pos 0 ∷ negsuc 199 ∷ pos 200 ∷ [])) ∷
    case (session in_proportion low_end 0 0 (bids [] []) (bids (bid 3 1 1 1 (pos 300000) 2 ∷ bid 1 2 2 1 (pos 300000) 4 ∷ []) (bid 2 1 2 0 (pos 300000) 2 ∷ bid 2 2 3 1 (negsuc 49999) 4 ∷ [])))
    (gives [] [] (0 ∷ 2 ∷ []) (2 ∷ 0 ∷ []) (pos 300000) (pos 300000) (pos 0) (pos 0) (entry 1 2 2 (pos 60000) ∷ entry 2 1 2 (negsuc 59999) ∷ entry 0 0 0 (pos 0) ∷ []) (pos 0) (pos 60000 ∷ negsuc 59999 ∷ pos 0 ∷ [])) ∷
    case (session by_precedence midpoint 2 0 (bids (bid 2 2 3 0 (negsuc 2) 3 ∷ []) []) (bids (bid 3 2 2 0 (negsuc 2) 3 ∷ []) (bid 1 1 3 0 (pos 3) 3 ∷ bid 3 2 2 0 (negsuc 2) 3 ∷ [])))
    (gives (2 ∷ []) [] (3 ∷ []) (3 ∷ 2 ∷ []) (negsuc 2) (negsuc 2) (pos 2) (pos 18) (entry 2 2 3 (negsuc 0) ∷ entry 3 2 2 (negsuc 0) ∷ entry 1 1 3 (pos 1) ∷ entry 3 2 2 (pos 1) ∷ entry 0 0 0 (pos 0) ∷ []) (pos 0) (pos 1 ∷ negsuc 0 ∷ pos 0 ∷ [])) ∷
    case (session in_proportion midpoint 3 2 (bids (bid 3 1 2 1 (pos 1000) 3 ∷ []) (bid 2 1 3 1 (pos 1000) 4 ∷ [])) (bids (bid 2 3 3 1 (pos 1000) 3 ∷ []) (bid 3 1 3 1 (pos 1000) 1 ∷ [])))
    (gives (2 ∷ []) (4 ∷ []) (3 ∷ []) (1 ∷ []) (pos 1000) (pos 1000) (negsuc 1) (pos 0) (entry 3 1 2 (pos 200) ∷ entry 2 1 3 (negsuc 399) ∷ entry 2 3 3 (pos 300) ∷ entry 3 1 3 (negsuc 99) ∷ entry 0 0 0 (pos 0) ∷ []) (pos 0) (pos 0 ∷ negsuc 99 ∷ pos 100 ∷ [])) ∷
    case (session by_precedence low_end 5 2 (bids [] (bid 1 2 3 0 (pos 0) 1 ∷ bid 2 1 3 1 (negsuc 14) 3 ∷ bid 3 3 2 0 (negsuc 14) 2 ∷ [])) (bids (bid 3 3 1 0 (negsuc 14) 4 ∷ []) (bid 1 2 3 0 (negsuc 49999) 4 ∷ [])))
    (gives [] (1 ∷ 1 ∷ 0 ∷ []) (2 ∷ []) (0 ∷ []) (negsuc 14) (negsuc 14) (negsuc 1) (pos 15) (entry 1 2 3 (pos 2) ∷ entry 3 3 2 (pos 2) ∷ entry 3 3 1 (negsuc 2) ∷ entry 0 0 0 (pos 0) ∷ []) (negsuc 0) (pos 2 ∷ pos 0 ∷ negsuc 0 ∷ [])) ∷
    case (session in_proportion low_end 1 0 (bids [] []) (bids (bid 1 3 3 1 (pos 2005) 4 ∷ bid 1 3 1 1 (pos 2006) 1 ∷ []) (bid 1 2 2 0 (pos 2005) 1 ∷ bid 2 1 1 1 (pos 2006) 4 ∷ [])))
    (gives [] [] (4 ∷ 0 ∷ []) (4 ∷ 0 ∷ []) (pos 2005) (pos 2005) (pos 0) (pos 4) (entry 1 3 3 (pos 802) ∷ entry 2 1 1 (negsuc 801) ∷ entry 0 0 0 (pos 0) ∷ []) (pos 0) (pos 802 ∷ negsuc 801 ∷ pos 0 ∷ [])) ∷
    case (session by_precedence midpoint 2 1 (bids (bid 3 1 1 0 (pos 1000) 3 ∷ []) (bid 3 3 1 0 (pos 1000) 1 ∷ bid 1 2 1 0 (pos 1000) 4 ∷ bid 2 3 3 0 (pos 1000) 2 ∷ [])) (bids (bid 3 1 3 1 (pos 1000) 1 ∷ bid 3 2 3 1 (pos 1000) 4 ∷ []) (bid 3 3 1 1 (pos 1000) 2 ∷ bid 1 2 1 1 (pos 1000) 3 ∷ [])))
    (gives (3 ∷ []) (1 ∷ 2 ∷ 1 ∷ []) (1 ∷ 4 ∷ []) (2 ∷ 2 ∷ []) (pos 1000) (pos 1000) (negsuc 0) (pos 0) (entry 3 1 1 (pos 300) ∷ entry 3 3 1 (negsuc 99) ∷ entry 2 3 3 (negsuc 199) ∷ entry 1 2 1 (negsuc 99) ∷ entry 3 1 3 (pos 100) ∷ entry 3 2 3 (pos 400) ∷ entry 3 3 1 (negsuc 199) ∷ entry 1 2 1 (negsuc 199) ∷ entry 0 0 0 (pos 0) ∷ []) (pos 0) (negsuc 299 ∷ negsuc 199 ∷ pos 500 ∷ [])) ∷
    case (session in_proportion midpoint 2 2 (bids (bid 1 3 2 1 (pos 1000) 2 ∷ bid 3 3 1 1 (pos 1000) 3 ∷ bid 2 1 2 1 (pos 1000) 3 ∷ []) (bid 3 3 3 1 (pos 1000) 1 ∷ [])) (bids (bid 1 2 3 1 (pos 1000) 2 ∷ []) (bid 3 1 1 0 (pos 1000) 4 ∷ bid 1 1 3 0 (pos 1000) 2 ∷ [])))
    (gives (0 ∷ 1 ∷ 2 ∷ []) (1 ∷ []) (2 ∷ []) (1 ∷ 3 ∷ []) (pos 1000) (pos 1000) (pos 2) (pos 0) (entry 2 1 2 (pos 100) ∷ entry 3 3 1 (pos 200) ∷ entry 3 3 3 (negsuc 99) ∷ entry 1 2 3 (pos 200) ∷ entry 1 1 3 (negsuc 99) ∷ entry 3 1 1 (negsuc 299) ∷ entry 0 0 0 (pos 0) ∷ []) (pos 0) (pos 100 ∷ pos 100 ∷ negsuc 199 ∷ [])) ∷
    case (session by_precedence low_end 1 5 (bids (bid 3 2 2 0 (pos 1000) 3 ∷ []) []) (bids (bid 1 2 3 1 (pos 1000) 3 ∷ bid 1 1 3 1 (pos 1000) 1 ∷ []) (bid 1 3 1 0 (pos 1000) 1 ∷ bid 3 3 2 1 (pos 1000) 2 ∷ [])))
    (gives (1 ∷ []) [] (1 ∷ 1 ∷ []) (1 ∷ 2 ∷ []) (pos 1000) (pos 1000) (pos 1) (pos 0) (entry 3 2 2 (pos 100) ∷ entry 1 1 3 (pos 100) ∷ entry 1 2 3 (pos 100) ∷ entry 1 3 1 (negsuc 99) ∷ entry 3 3 2 (negsuc 199) ∷ entry 0 0 0 (pos 0) ∷ []) (pos 0) (pos 100 ∷ pos 0 ∷ negsuc 99 ∷ [])) ∷
    case (session in_proportion low_end 0 1 (bids (bid 1 1 3 0 (negsuc 2) 1 ∷ bid 2 2 2 1 (negsuc 2) 1 ∷ []) (bid 1 3 1 0 (negsuc 2) 3 ∷ bid 2 2 1 0 (pos 3) 4 ∷ [])) (bids (bid 3 3 1 1 (pos 3) 2 ∷ []) []))
    (gives (1 ∷ 1 ∷ []) (3 ∷ 0 ∷ []) (1 ∷ []) [] (pos 3) (pos 3) (negsuc 0) (pos 12) (entry 1 1 3 (pos 0) ∷ entry 2 2 2 (pos 0) ∷ entry 2 2 1 (negsuc 0) ∷ entry 3 3 1 (pos 0) ∷ entry 0 0 0 (pos 0) ∷ []) (pos 1) (pos 0 ∷ negsuc 0 ∷ pos 0 ∷ [])) ∷
    case (session by_precedence midpoint 6 1 (bids (bid 3 3 1 1 (pos 299999) 4 ∷ []) (bid 1 3 1 0 (pos 299999) 3 ∷ bid 3 2 3 1 (negsuc 49998) 4 ∷ bid 1 3 2 0 (pos 300000) 3 ∷ [])) (bids (bid 1 2 3 1 (pos 299999) 3 ∷ []) (bid 2 1 1 1 (negsuc 49998) 1 ∷ bid 2 1 3 1 (negsuc 49999) 2 ∷ bid 2 2 1 0 (pos 299999) 2 ∷ [])))
    (gives (4 ∷ []) (3 ∷ 2 ∷ 0 ∷ []) (3 ∷ []) (2 ∷ 0 ∷ 0 ∷ []) (pos 299999) (pos 299999) (negsuc 0) (pos 3) (entry 3 3 1 (pos 120000) ∷ entry 1 3 2 (negsuc 89999) ∷ entry 1 3 1 (negsuc 59999) ∷ entry 1 2 3 (pos 90000) ∷ entry 2 2 1 (negsuc 59999) ∷ entry 0 0 0 (pos 0) ∷ []) (pos 0) (negsuc 59999 ∷ negsuc 59999 ∷ pos 120000 ∷ [])) ∷
    case (session in_proportion midpoint 0 4 (bids (bid 2 3 1 1 (pos 0) 1 ∷ bid 2 1 3 1 (pos 3) 1 ∷ []) (bid 1 2 3 0 (pos 0) 4 ∷ bid 1 3 2 1 (pos 3) 4 ∷ [])) (bids (bid 2 3 1 0 (negsuc 2) 4 ∷ bid 2 3 3 1 (pos 3) 2 ∷ []) (bid 1 2 1 1 (pos 0) 1 ∷ bid 3 1 3 0 (pos 0) 2 ∷ [])))
    (gives (1 ∷ 0 ∷ []) (4 ∷ 0 ∷ []) (4 ∷ 0 ∷ []) (0 ∷ 1 ∷ []) (pos 0) (pos 0) (negsuc 2) (pos 24) (entry 2 3 1 (pos 0) ∷ entry 1 3 2 (pos 0) ∷ entry 2 3 1 (pos 0) ∷ entry 1 2 1 (pos 0) ∷ entry 0 0 0 (pos 0) ∷ []) (pos 0) (pos 0 ∷ pos 0 ∷ pos 0 ∷ [])) ∷
    case (session by_precedence low_end 1 2 (bids (bid 1 3 1 1 (pos 3000) 2 ∷ []) []) (bids (bid 2 1 3 1 (pos 5000) 1 ∷ []) (bid 1 1 2 0 (pos 3000) 2 ∷ bid 3 1 1 1 (pos 4000) 4 ∷ [])))
    (gives (1 ∷ []) [] (0 ∷ []) (1 ∷ 0 ∷ []) (pos 3000) (pos 4000) (pos 1) (pos 1000) (entry 1 3 1 (pos 300) ∷ entry 3 1 1 (negsuc 399) ∷ entry 0 0 0 (pos 100) ∷ []) (pos 0) (pos 300 ∷ pos 0 ∷ negsuc 399 ∷ [])) ∷
    case (session in_proportion low_end 1 1 (bids (bid 2 3 2 0 (negsuc 49999) 4 ∷ bid 3 2 3 1 (negsuc 49999) 3 ∷ bid 2 2 1 1 (negsuc 49999) 4 ∷ []) []) (bids (bid 3 1 3 0 (negsuc 49999) 2 ∷ bid 1 3 3 0 (pos 300000) 1 ∷ []) (bid 3 1 2 1 (negsuc 49999) 4 ∷ [])))
    (gives (0 ∷ 0 ∷ 1 ∷ []) [] (2 ∷ 0 ∷ []) (3 ∷ []) (negsuc 49999) (negsuc 49999) (pos 1) (pos 0) (entry 2 2 1 (negsuc 4999) ∷ entry 3 1 3 (negsuc 9999) ∷ entry 3 1 2 (pos 15000) ∷ entry 0 0 0 (pos 0) ∷ []) (pos 0) (pos 0 ∷ negsuc 4999 ∷ pos 5000 ∷ [])) ∷
    case (session by_precedence midpoint 2 2 (bids [] (bid 3 1 3 0 (pos 300000) 4 ∷ bid 2 2 2 1 (negsuc 49999) 4 ∷ bid 1 2 3 0 (pos 300000) 1 ∷ bid 1 1 1 1 (negsuc 49999) 3 ∷ [])) (bids (bid 2 2 3 0 (pos 300000) 4 ∷ bid 2 3 3 0 (pos 300000) 4 ∷ bid 2 2 1 1 (negsuc 49999) 2 ∷ []) (bid 1 3 2 0 (pos 300000) 1 ∷ [])))
    (gives [] (1 ∷ 1 ∷ 0 ∷ 0 ∷ []) (2 ∷ 1 ∷ 0 ∷ []) (1 ∷ []) (pos 300000) (pos 300000) (negsuc 1) (pos 700000) (entry 1 2 3 (negsuc 29999) ∷ entry 3 1 3 (negsuc 29999) ∷ entry 2 2 1 (pos 60000) ∷ entry 2 2 3 (pos 30000) ∷ entry 1 3 2 (negsuc 29999) ∷ entry 0 0 0 (pos 0) ∷ []) (pos 0) (negsuc 59999 ∷ pos 90000 ∷ negsuc 29999 ∷ [])) ∷
    case (session in_proportion midpoint 1 0 (bids (bid 1 3 3 0 (pos 0) 3 ∷ []) (bid 2 3 1 0 (pos 0) 3 ∷ [])) (bids (bid 3 3 3 0 (negsuc 49999) 3 ∷ []) (bid 1 2 2 0 (pos 300000) 3 ∷ [])))
    (gives (3 ∷ []) (3 ∷ []) (3 ∷ []) (3 ∷ []) (pos 0) (pos 0) (pos 0) (pos 1050000) (entry 1 3 3 (pos 0) ∷ entry 2 3 1 (pos 0) ∷ entry 3 3 3 (pos 0) ∷ entry 1 2 2 (pos 0) ∷ entry 0 0 0 (pos 0) ∷ []) (pos 0) (pos 0 ∷ pos 0 ∷ pos 0 ∷ [])) ∷
    case (session by_precedence low_end 2 6 (bids (bid 3 3 3 0 (pos 2006) 3 ∷ bid 2 1 2 0 (pos 2005) 3 ∷ bid 1 2 3 0 (pos 2006) 3 ∷ []) []) (bids (bid 1 1 2 0 (pos 2005) 3 ∷ bid 2 2 2 0 (pos 2006) 3 ∷ bid 1 1 3 0 (pos 2005) 3 ∷ []) (bid 2 3 1 0 (pos 2005) 3 ∷ [])))
    (gives (2 ∷ 0 ∷ 0 ∷ []) [] (1 ∷ 0 ∷ 0 ∷ []) (3 ∷ []) (pos 2005) (pos 2005) (pos 2) (pos 0) (entry 2 1 2 (pos 401) ∷ entry 1 1 2 (pos 201) ∷ entry 2 3 1 (negsuc 601) ∷ entry 0 0 0 (pos 0) ∷ []) (pos 0) (pos 201 ∷ negsuc 200 ∷ pos 0 ∷ [])) ∷
    case (session in_proportion low_end 1 4 (bids (bid 1 3 3 0 (pos 1000) 3 ∷ bid 2 1 3 0 (pos 1000) 3 ∷ []) (bid 3 1 1 0 (pos 1000) 3 ∷ [])) (bids (bid 3 2 1 0 (pos 1000) 3 ∷ []) (bid 2 1 1 0 (pos 1000) 3 ∷ bid 3 2 3 0 (pos 1000) 3 ∷ [])))
    (gives (2 ∷ 2 ∷ []) (3 ∷ []) (3 ∷ []) (2 ∷ 2 ∷ []) (pos 1000) (pos 1000) (pos 1) (pos 0) (entry 2 1 3 (pos 200) ∷ entry 1 3 3 (pos 200) ∷ entry 3 1 1 (negsuc 299) ∷ entry 3 2 1 (pos 300) ∷ entry 2 1 1 (negsuc 199) ∷ entry 3 2 3 (negsuc 199) ∷ entry 0 0 0 (pos 0) ∷ []) (pos 0) (pos 200 ∷ pos 0 ∷ negsuc 199 ∷ [])) ∷
    case (session by_precedence midpoint 2 0 (bids (bid 2 2 3 1 (pos 1000) 4 ∷ bid 1 2 1 1 (pos 1000) 2 ∷ bid 2 3 2 0 (pos 1000) 2 ∷ []) (bid 3 3 3 0 (pos 1000) 1 ∷ [])) (bids (bid 2 1 3 0 (pos 1000) 2 ∷ []) (bid 3 1 1 1 (pos 1000) 2 ∷ bid 1 3 2 1 (pos 1000) 3 ∷ [])))
    (gives (2 ∷ 1 ∷ 0 ∷ []) (1 ∷ []) (2 ∷ []) (2 ∷ 2 ∷ []) (pos 1000) (pos 1000) (pos 2) (pos 0) (entry 2 3 2 (pos 200) ∷ entry 1 2 1 (pos 100) ∷ entry 3 3 3 (negsuc 99) ∷ entry 2 1 3 (pos 200) ∷ entry 3 1 1 (negsuc 199) ∷ entry 1 3 2 (negsuc 199) ∷ entry 0 0 0 (pos 0) ∷ []) (pos 0) (negsuc 99 ∷ pos 400 ∷ negsuc 299 ∷ [])) ∷
    case (session in_proportion midpoint 1 1 (bids (bid 3 3 2 0 (pos 2005) 3 ∷ []) (bid 2 1 1 0 (pos 2006) 3 ∷ bid 3 2 3 1 (pos 2005) 2 ∷ bid 2 2 2 1 (pos 2005) 4 ∷ [])) (bids (bid 1 2 2 1 (pos 2005) 3 ∷ bid 2 3 3 0 (pos 2005) 3 ∷ bid 3 3 1 0 (pos 2005) 2 ∷ []) (bid 3 1 2 1 (pos 2005) 3 ∷ [])))
    (gives (3 ∷ []) (3 ∷ 0 ∷ 1 ∷ []) (1 ∷ 1 ∷ 2 ∷ []) (3 ∷ []) (pos 2005) (pos 2005) (negsuc 0) (pos 3) (entry 3 3 2 (pos 602) ∷ entry 2 1 1 (negsuc 601) ∷ entry 2 2 2 (negsuc 200) ∷ entry 3 3 1 (pos 201) ∷ entry 2 3 3 (pos 201) ∷ entry 1 2 2 (pos 401) ∷ entry 3 1 2 (negsuc 601) ∷ entry 0 0 0 (pos 0) ∷ []) (pos 0) (pos 401 ∷ negsuc 601 ∷ pos 201 ∷ [])) ∷
    case (session by_precedence low_end 2 0 (bids (bid 3 3 2 0 (pos 2005) 1 ∷ bid 1 3 1 1 (pos 2006) 3 ∷ []) (bid 3 1 3 0 (pos 2005) 1 ∷ bid 2 3 2 1 (pos 2006) 4 ∷ [])) (bids [] []))
    (gives (1 ∷ 3 ∷ []) (4 ∷ 0 ∷ []) [] [] (pos 2006) (pos 2006) (pos 0) (pos 1) (entry 3 3 2 (pos 201) ∷ entry 1 3 1 (pos 602) ∷ entry 2 3 2 (negsuc 801) ∷ entry 0 0 0 (pos 0) ∷ []) (negsuc 0) (pos 602 ∷ negsuc 801 ∷ pos 201 ∷ [])) ∷
    case (session in_proportion low_end 0 0 (bids (bid 3 3 1 1 (negsuc 49998) 3 ∷ []) (bid 1 2 1 1 (pos 299999) 3 ∷ bid 1 1 3 0 (pos 299999) 2 ∷ [])) (bids [] (bid 1 2 3 0 (negsuc 49998) 2 ∷ [])))
    (gives (3 ∷ []) (1 ∷ 2 ∷ []) [] (0 ∷ []) (pos 299999) (pos 299999) (pos 0) (pos 1049994) (entry 3 3 1 (pos 90000) ∷ entry 1 1 3 (negsuc 29999) ∷ entry 1 2 1 (negsuc 59999) ∷ entry 0 0 0 (pos 0) ∷ []) (pos 0) (negsuc 89999 ∷ pos 0 ∷ pos 90000 ∷ [])) ∷
    case (session by_precedence midpoint 1 0 (bids (bid 1 1 1 1 (negsuc 2) 4 ∷ bid 3 2 2 1 (negsuc 2) 2 ∷ bid 3 1 3 1 (pos 0) 4 ∷ []) (bid 3 3 2 1 (pos 0) 3 ∷ [])) (bids [] (bid 3 1 2 1 (pos 0) 4 ∷ bid 3 1 3 1 (pos 3) 1 ∷ [])))
    (gives (2 ∷ 2 ∷ 0 ∷ []) (3 ∷ []) [] (1 ∷ 0 ∷ []) (negsuc 2) (pos 1) (pos 1) (pos 15) (entry 3 2 2 (negsuc 0) ∷ entry 1 1 1 (negsuc 0) ∷ entry 3 3 2 (pos 1) ∷ entry 3 1 3 (pos 0) ∷ entry 0 0 0 (pos 0) ∷ []) (pos 1) (negsuc 0 ∷ pos 0 ∷ pos 0 ∷ [])) ∷
    case (session in_proportion midpoint 1 2 (bids (bid 2 3 3 0 (negsuc 49999) 2 ∷ bid 1 2 2 0 (negsuc 49999) 2 ∷ []) (bid 3 1 1 0 (pos 0) 3 ∷ bid 1 2 3 1 (negsuc 14) 3 ∷ [])) (bids [] (bid 3 2 1 0 (negsuc 49999) 1 ∷ bid 3 3 1 0 (pos 0) 4 ∷ bid 3 1 3 0 (pos 15) 3 ∷ bid 1 1 1 1 (negsuc 14) 2 ∷ [])))
    (gives (2 ∷ 2 ∷ []) (3 ∷ 0 ∷ []) [] (1 ∷ 0 ∷ 0 ∷ 0 ∷ []) (negsuc 7) (pos 15) (pos 1) (pos 200015) (entry 1 2 2 (negsuc 1) ∷ entry 2 3 3 (negsuc 1) ∷ entry 3 1 1 (pos 2) ∷ entry 3 1 3 (negsuc 1) ∷ entry 0 0 0 (pos 2) ∷ []) (pos 2) (negsuc 1 ∷ negsuc 1 ∷ pos 0 ∷ [])) ∷
    case (session by_precedence low_end 5 1 (bids (bid 2 2 1 0 (pos 2006) 3 ∷ []) (bid 1 1 2 0 (pos 2006) 3 ∷ [])) (bids (bid 1 2 3 0 (pos 2005) 3 ∷ bid 3 1 1 0 (pos 2005) 3 ∷ []) (bid 3 2 3 0 (pos 2006) 3 ∷ [])))
    (gives (2 ∷ []) (3 ∷ []) (3 ∷ 1 ∷ []) (3 ∷ []) (pos 2006) (pos 2005) (negsuc 0) (pos 4) (entry 2 2 1 (pos 401) ∷ entry 1 1 2 (negsuc 601) ∷ entry 3 1 1 (pos 602) ∷ entry 1 2 3 (pos 201) ∷ entry 3 2 3 (negsuc 601) ∷ entry 0 0 0 (pos 0) ∷ []) (pos 0) (negsuc 400 ∷ pos 401 ∷ pos 0 ∷ [])) ∷
    case (session in_proportion low_end 5 4 (bids (bid 1 3 2 1 (pos 0) 1 ∷ bid 1 3 1 1 (negsuc 2) 4 ∷ []) (bid 1 1 3 1 (pos 3) 1 ∷ [])) (bids [] (bid 1 2 2 1 (pos 3) 4 ∷ [])))
    (gives (4 ∷ 1 ∷ []) (1 ∷ []) [] (4 ∷ []) (pos 0) (pos 0) (pos 4) (pos 27) (entry 1 3 1 (pos 0) ∷ entry 1 3 2 (pos 0) ∷ entry 1 1 3 (pos 0) ∷ entry 1 2 2 (pos 0) ∷ entry 0 0 0 (pos 0) ∷ []) (pos 0) (pos 0 ∷ pos 0 ∷ pos 0 ∷ [])) ∷
    case (session by_precedence midpoint 1 0 (bids (bid 3 2 1 0 (pos 0) 1 ∷ bid 3 3 3 0 (negsuc 2) 3 ∷ bid 2 3 1 1 (negsuc 2) 4 ∷ []) (bid 2 1 1 0 (pos 3) 1 ∷ [])) (bids (bid 3 1 1 0 (pos 0) 3 ∷ bid 1 1 3 0 (pos 3) 1 ∷ []) (bid 2 1 3 0 (negsuc 2) 1 ∷ [])))
    (gives (2 ∷ 0 ∷ 0 ∷ []) (1 ∷ []) (0 ∷ 0 ∷ []) (1 ∷ []) (negsuc 2) (negsuc 2) (pos 1) (pos 6) (entry 3 3 3 (negsuc 0) ∷ entry 2 1 1 (pos 0) ∷ entry 2 1 3 (pos 0) ∷ entry 0 0 0 (pos 0) ∷ []) (pos 1) (pos 0 ∷ pos 0 ∷ negsuc 0 ∷ [])) ∷
    case (session in_proportion midpoint 1 2 (bids (bid 2 3 2 0 (pos 1000) 2 ∷ bid 1 3 1 1 (pos 2000) 3 ∷ []) (bid 2 3 3 0 (pos 1000) 1 ∷ bid 1 2 1 0 (pos 2000) 4 ∷ [])) (bids [] (bid 3 3 2 1 (pos 1000) 4 ∷ bid 3 1 2 1 (pos 3000) 4 ∷ bid 1 3 3 0 (pos 2000) 3 ∷ [])))
    (gives (2 ∷ 3 ∷ []) (4 ∷ 0 ∷ []) [] (1 ∷ 0 ∷ 0 ∷ []) (pos 2000) (pos 3000) (pos 1) (pos 3000) (entry 2 3 2 (pos 400) ∷ entry 1 3 1 (pos 600) ∷ entry 1 2 1 (negsuc 799) ∷ entry 3 1 2 (negsuc 299) ∷ entry 0 0 0 (pos 100) ∷ []) (pos 0) (negsuc 199 ∷ pos 400 ∷ negsuc 299 ∷ [])) ∷
    case (session by_precedence low_end 0 1 (bids (bid 2 1 2 0 (pos 2006) 1 ∷ []) (bid 3 1 3 1 (pos 2006) 4 ∷ [])) (bids (bid 1 3 1 0 (pos 2005) 4 ∷ bid 3 2 2 0 (pos 2006) 2 ∷ []) (bid 2 3 2 0 (pos 2005) 1 ∷ [])))
    (gives (1 ∷ []) (2 ∷ []) (2 ∷ 0 ∷ []) (1 ∷ []) (pos 2006) (pos 2005) (negsuc 0) (pos 1) (entry 2 1 2 (pos 201) ∷ entry 3 1 3 (negsuc 400) ∷ entry 1 3 1 (pos 401) ∷ entry 2 3 2 (negsuc 200) ∷ entry 0 0 0 (pos 0) ∷ []) (pos 0) (pos 401 ∷ pos 0 ∷ negsuc 400 ∷ [])) ∷
    case (session in_proportion low_end 2 5 (bids [] (bid 2 3 3 1 (pos 3000) 1 ∷ bid 1 1 1 0 (pos 4000) 3 ∷ bid 3 2 3 1 (pos 5000) 3 ∷ [])) (bids (bid 1 1 2 1 (pos 1000) 3 ∷ bid 1 3 2 0 (pos 5000) 1 ∷ bid 2 3 3 1 (pos 1000) 4 ∷ []) (bid 1 3 1 1 (pos 3000) 2 ∷ [])))
    (gives [] (3 ∷ 2 ∷ 0 ∷ []) (3 ∷ 4 ∷ 0 ∷ []) (2 ∷ []) (pos 4000) (pos 1000) (negsuc 4) (pos 22000) (entry 3 2 3 (negsuc 1199) ∷ entry 1 1 1 (negsuc 799) ∷ entry 1 1 2 (pos 300) ∷ entry 2 3 3 (pos 400) ∷ entry 1 3 1 (negsuc 199) ∷ entry 0 0 0 (pos 1500) ∷ []) (pos 0) (negsuc 699 ∷ pos 400 ∷ negsuc 1199 ∷ [])) ∷
    case (session by_precedence midpoint 8 9 (bids (bid 3 3 2 0 (pos 1000) 3 ∷ []) (bid 2 1 2 0 (pos 1000) 3 ∷ bid 3 1 3 0 (pos 1000) 3 ∷ bid 2 3 1 0 (pos 1000) 3 ∷ [])) (bids (bid 2 1 2 0 (pos 1000) 3 ∷ []) (bid 2 2 3 0 (pos 1000) 3 ∷ bid 2 2 1 0 (pos 1000) 3 ∷ [])))
    (gives (3 ∷ []) (3 ∷ 3 ∷ 0 ∷ []) (3 ∷ []) (0 ∷ 0 ∷ []) (pos 1000) (pos 1000) (negsuc 2) (pos 0) (entry 3 3 2 (pos 300) ∷ entry 2 1 2 (negsuc 299) ∷ entry 3 1 3 (negsuc 299) ∷ entry 2 1 2 (pos 300) ∷ entry 0 0 0 (pos 0) ∷ []) (pos 0) (pos 0 ∷ pos 0 ∷ pos 0 ∷ [])) ∷
    case (session in_proportion midpoint 0 0 (bids (bid 1 3 2 0 (pos 1000) 3 ∷ bid 2 2 3 0 (pos 1000) 3 ∷ []) []) (bids (bid 2 1 2 0 (pos 1000) 3 ∷ bid 1 3 3 0 (pos 1000) 3 ∷ bid 3 1 3 0 (pos 1000) 3 ∷ []) (bid 3 1 2 0 (pos 1000) 3 ∷ [])))
    (gives (0 ∷ 0 ∷ []) [] (1 ∷ 1 ∷ 1 ∷ []) (3 ∷ []) (negsuc 24499) (pos 1000) (pos 0) (pos 0) (entry 2 1 2 (pos 100) ∷ entry 3 1 3 (pos 100) ∷ entry 1 3 3 (pos 100) ∷ entry 3 1 2 (negsuc 299) ∷ entry 0 0 0 (pos 0) ∷ []) (pos 0) (pos 100 ∷ pos 100 ∷ negsuc 199 ∷ [])) ∷
    case (session by_precedence low_end 1 2 (bids (bid 3 2 2 0 (pos 0) 3 ∷ []) (bid 2 3 1 0 (negsuc 49999) 3 ∷ bid 3 1 3 0 (negsuc 49999) 3 ∷ bid 2 3 3 0 (negsuc 14) 3 ∷ [])) (bids [] (bid 1 3 2 0 (pos 0) 3 ∷ bid 1 3 1 0 (negsuc 14) 3 ∷ [])))
    (gives (1 ∷ []) (0 ∷ 0 ∷ 0 ∷ []) [] (1 ∷ 0 ∷ []) (pos 0) (pos 0) (pos 1) (pos 0) (entry 3 2 2 (pos 0) ∷ entry 1 3 2 (pos 0) ∷ entry 0 0 0 (pos 0) ∷ []) (pos 0) (pos 0 ∷ pos 0 ∷ pos 0 ∷ [])) ∷
    case (session in_proportion low_end 0 1 (bids (bid 3 3 1 0 (pos 3) 3 ∷ bid 1 2 2 0 (pos 0) 3 ∷ []) (bid 2 1 3 0 (pos 3) 3 ∷ bid 1 3 3 0 (pos 3) 3 ∷ [])) (bids (bid 2 2 2 0 (pos 3) 3 ∷ []) (bid 3 1 2 0 (negsuc 2) 3 ∷ [])))
    (gives (3 ∷ 2 ∷ []) (3 ∷ 3 ∷ []) (1 ∷ []) (0 ∷ []) (pos 3) (pos 3) (negsuc 0) (pos 9) (entry 1 2 2 (pos 1) ∷ entry 3 3 1 (pos 1) ∷ entry 2 1 3 (negsuc 0) ∷ entry 1 3 3 (negsuc 0) ∷ entry 2 2 2 (pos 0) ∷ entry 0 0 0 (pos 0) ∷ []) (pos 0) (pos 0 ∷ negsuc 0 ∷ pos 1 ∷ [])) ∷
    case (session by_precedence midpoint 1 1 (bids (bid 1 2 2 1 (pos 1000) 2 ∷ []) (bid 1 1 1 0 (pos 1000) 1 ∷ bid 1 2 3 1 (pos 1000) 3 ∷ [])) (bids (bid 2 1 2 0 (pos 1000) 4 ∷ bid 3 3 1 1 (pos 1000) 1 ∷ bid 3 1 3 0 (pos 1000) 1 ∷ []) (bid 3 3 1 1 (pos 1000) 4 ∷ [])))
    (gives (2 ∷ []) (1 ∷ 2 ∷ []) (1 ∷ 4 ∷ 0 ∷ []) (4 ∷ []) (pos 1000) (pos 1000) (negsuc 0) (pos 0) (entry 1 2 2 (pos 200) ∷ entry 1 1 1 (negsuc 99) ∷ entry 1 2 3 (negsuc 199) ∷ entry 3 1 3 (pos 100) ∷ entry 2 1 2 (pos 400) ∷ entry 3 3 1 (negsuc 399) ∷ entry 0 0 0 (pos 0) ∷ []) (pos 0) (negsuc 99 ∷ pos 400 ∷ negsuc 299 ∷ [])) ∷
    case (session in_proportion midpoint 0 0 (bids (bid 1 1 3 0 (pos 300000) 2 ∷ []) (bid 1 3 3 0 (pos 300000) 3 ∷ bid 3 3 2 1 (pos 300000) 2 ∷ [])) (bids (bid 2 2 2 0 (negsuc 49999) 4 ∷ bid 1 3 1 0 (negsuc 49999) 1 ∷ bid 1 1 1 1 (pos 300000) 3 ∷ []) (bid 1 3 3 1 (pos 300000) 2 ∷ [])))
    (gives (2 ∷ []) (1 ∷ 1 ∷ []) (0 ∷ 2 ∷ 0 ∷ []) (2 ∷ []) (pos 300000) (negsuc 49999) (pos 0) (pos 700000) (entry 1 1 3 (pos 60000) ∷ entry 1 3 3 (negsuc 29999) ∷ entry 3 3 2 (negsuc 29999) ∷ entry 2 2 2 (negsuc 9999) ∷ entry 1 3 3 (pos 10000) ∷ entry 0 0 0 (pos 0) ∷ []) (pos 0) (pos 40000 ∷ negsuc 9999 ∷ negsuc 29999 ∷ [])) ∷
    case (session by_precedence low_end 0 0 (bids [] (bid 2 1 3 0 (pos 2005) 3 ∷ [])) (bids (bid 2 2 1 0 (pos 2005) 4 ∷ []) (bid 2 1 2 1 (pos 2006) 4 ∷ bid 1 3 2 0 (pos 2006) 3 ∷ bid 1 2 1 0 (pos 2006) 1 ∷ [])))
    (gives [] (0 ∷ []) (4 ∷ []) (1 ∷ 3 ∷ 0 ∷ []) (pos 2006) (pos 2006) (pos 0) (pos 4) (entry 2 2 1 (pos 802) ∷ entry 1 2 1 (negsuc 200) ∷ entry 1 3 2 (negsuc 601) ∷ entry 0 0 0 (pos 0) ∷ []) (pos 1) (negsuc 802 ∷ pos 802 ∷ pos 0 ∷ [])) ∷
    case (session in_proportion low_end 1 1 (bids (bid 1 1 2 1 (pos 300000) 4 ∷ bid 2 1 1 0 (negsuc 49999) 2 ∷ []) (bid 3 3 3 0 (negsuc 49999) 4 ∷ bid 1 2 2 1 (pos 300000) 3 ∷ [])) (bids (bid 3 2 2 0 (negsuc 49999) 2 ∷ []) (bid 1 2 2 0 (negsuc 49999) 2 ∷ bid 3 1 2 1 (negsuc 49999) 3 ∷ bid 2 3 1 1 (pos 300000) 4 ∷ [])))
    (gives (2 ∷ 2 ∷ []) (3 ∷ 0 ∷ []) (2 ∷ []) (3 ∷ 0 ∷ 0 ∷ []) (pos 300000) (pos 300000) (pos 1) (pos 1400000) (entry 2 1 1 (pos 60000) ∷ entry 1 1 2 (pos 60000) ∷ entry 1 2 2 (negsuc 89999) ∷ entry 3 2 2 (pos 60000) ∷ entry 2 3 1 (negsuc 89999) ∷ entry 0 0 0 (pos 0) ∷ []) (pos 0) (negsuc 29999 ∷ negsuc 29999 ∷ pos 60000 ∷ [])) ∷
    case (session by_precedence midpoint 1 1 (bids (bid 2 2 1 0 (pos 1000) 2 ∷ bid 3 2 3 0 (pos 1000) 3 ∷ bid 2 1 2 0 (pos 1000) 3 ∷ []) (bid 1 1 2 1 (pos 1000) 4 ∷ [])) (bids (bid 1 3 2 1 (pos 1000) 1 ∷ []) (bid 1 1 1 0 (pos 1000) 1 ∷ bid 2 2 2 1 (pos 1000) 2 ∷ bid 1 1 3 1 (pos 1000) 1 ∷ [])))
    (gives (2 ∷ 3 ∷ 0 ∷ []) (4 ∷ []) (1 ∷ []) (1 ∷ 1 ∷ 0 ∷ []) (pos 1000) (pos 1000) (pos 1) (pos 0) (entry 2 2 1 (pos 200) ∷ entry 2 1 2 (pos 300) ∷ entry 1 1 2 (negsuc 399) ∷ entry 1 3 2 (pos 100) ∷ entry 1 1 1 (negsuc 99) ∷ entry 1 1 3 (negsuc 99) ∷ entry 0 0 0 (pos 0) ∷ []) (pos 0) (negsuc 499 ∷ pos 500 ∷ pos 0 ∷ [])) ∷
    case (session in_proportion midpoint 0 1 (bids [] (bid 2 1 2 0 (pos 1000) 3 ∷ [])) (bids (bid 3 3 2 0 (pos 1000) 3 ∷ bid 2 1 3 0 (pos 1000) 3 ∷ bid 1 2 1 0 (pos 1000) 3 ∷ []) (bid 2 3 3 0 (pos 1000) 3 ∷ [])))
    (gives [] (1 ∷ []) (1 ∷ 1 ∷ 2 ∷ []) (3 ∷ []) (pos 1000) (pos 1000) (negsuc 0) (pos 0) (entry 2 1 2 (negsuc 99) ∷ entry 2 1 3 (pos 100) ∷ entry 1 2 1 (pos 100) ∷ entry 3 3 2 (pos 200) ∷ entry 2 3 3 (negsuc 299) ∷ entry 0 0 0 (pos 0) ∷ []) (pos 0) (pos 100 ∷ negsuc 299 ∷ pos 200 ∷ [])) ∷
    case (session by_precedence low_end 1 2 (bids (bid 3 1 1 1 (pos 15) 1 ∷ bid 1 3 3 1 (negsuc 49999) 2 ∷ []) (bid 1 1 2 0 (pos 0) 4 ∷ bid 3 2 3 0 (pos 300000) 2 ∷ [])) (bids [] (bid 2 1 2 0 (negsuc 14) 2 ∷ [])))
    (gives (2 ∷ 0 ∷ []) (2 ∷ 0 ∷ []) [] (0 ∷ []) (pos 0) (pos 0) (pos 0) (pos 700000) (entry 1 3 3 (pos 0) ∷ entry 3 2 3 (pos 0) ∷ entry 0 0 0 (pos 0) ∷ []) (pos 0) (pos 0 ∷ pos 0 ∷ pos 0 ∷ [])) ∷
    case (session in_proportion low_end 4 9 (bids (bid 1 3 3 0 (pos 300000) 3 ∷ bid 1 2 3 0 (pos 15) 3 ∷ []) (bid 2 1 3 0 (pos 0) 3 ∷ [])) (bids (bid 3 3 2 0 (pos 0) 3 ∷ bid 1 1 1 0 (pos 15) 3 ∷ bid 1 2 3 0 (pos 300000) 3 ∷ []) (bid 3 1 2 0 (pos 0) 3 ∷ [])))
    (gives (0 ∷ 0 ∷ []) (2 ∷ []) (3 ∷ 0 ∷ 0 ∷ []) (1 ∷ []) (pos 0) (pos 0) (negsuc 1) (pos 0) (entry 2 1 3 (pos 0) ∷ entry 3 3 2 (pos 0) ∷ entry 3 1 2 (pos 0) ∷ entry 0 0 0 (pos 0) ∷ []) (pos 0) (pos 0 ∷ pos 0 ∷ pos 0 ∷ [])) ∷
    case (session by_precedence midpoint 1 2 (bids (bid 3 1 1 0 (pos 300000) 2 ∷ bid 2 2 1 0 (pos 15) 1 ∷ bid 3 2 3 0 (pos 15) 1 ∷ bid 2 3 3 1 (pos 300000) 1 ∷ []) []) (bids (bid 3 3 2 0 (negsuc 49999) 1 ∷ []) (bid 3 3 3 1 (pos 15) 3 ∷ bid 3 3 1 1 (negsuc 49999) 3 ∷ [])))
    (gives (1 ∷ 0 ∷ 0 ∷ 0 ∷ []) [] (1 ∷ []) (2 ∷ 0 ∷ []) (pos 15) (pos 15) (pos 1) (pos 50015) (entry 2 2 1 (pos 2) ∷ entry 3 3 2 (pos 2) ∷ entry 3 3 3 (negsuc 2) ∷ entry 0 0 0 (pos 0) ∷ []) (negsuc 0) (pos 0 ∷ pos 2 ∷ negsuc 0 ∷ [])) ∷
    case (session in_proportion midpoint 1 0 (bids (bid 2 2 1 0 (pos 1000) 2 ∷ bid 3 2 2 0 (pos 1000) 4 ∷ []) []) (bids (bid 2 3 1 1 (pos 1000) 1 ∷ bid 2 2 3 1 (pos 1000) 2 ∷ []) (bid 1 1 1 1 (pos 1000) 1 ∷ bid 1 3 2 1 (pos 1000) 4 ∷ [])))
    (gives (0 ∷ 1 ∷ []) [] (1 ∷ 2 ∷ []) (0 ∷ 4 ∷ []) (pos 1000) (pos 1000) (pos 1) (pos 0) (entry 3 2 2 (pos 100) ∷ entry 2 3 1 (pos 100) ∷ entry 2 2 3 (pos 200) ∷ entry 1 3 2 (negsuc 399) ∷ entry 0 0 0 (pos 0) ∷ []) (pos 0) (negsuc 399 ∷ pos 300 ∷ pos 100 ∷ [])) ∷
    case (session by_precedence low_end 0 2 (bids [] (bid 2 3 2 1 (pos 3000) 2 ∷ bid 2 2 1 1 (pos 5000) 2 ∷ [])) (bids (bid 1 2 1 0 (pos 3000) 4 ∷ bid 1 3 3 0 (pos 1000) 1 ∷ []) (bid 3 3 2 1 (pos 3000) 1 ∷ bid 1 2 2 0 (pos 2000) 3 ∷ [])))
    (gives [] (2 ∷ 0 ∷ []) (1 ∷ 2 ∷ []) (1 ∷ 0 ∷ []) (pos 3000) (pos 3000) (negsuc 1) (pos 6000) (entry 2 2 1 (negsuc 599) ∷ entry 1 3 3 (pos 300) ∷ entry 1 2 1 (pos 600) ∷ entry 3 3 2 (negsuc 299) ∷ entry 0 0 0 (pos 0) ∷ []) (pos 0) (pos 900 ∷ negsuc 599 ∷ negsuc 299 ∷ [])) ∷
    case (session in_proportion low_end 0 0 (bids (bid 3 3 2 0 (pos 15) 3 ∷ bid 2 3 1 0 (pos 15) 3 ∷ bid 2 2 2 0 (pos 300000) 3 ∷ []) (bid 2 3 3 0 (negsuc 49999) 3 ∷ [])) (bids [] (bid 3 3 3 0 (pos 300000) 3 ∷ [])))
    (gives (0 ∷ 0 ∷ 0 ∷ []) (0 ∷ []) [] (0 ∷ []) (negsuc 49999) (pos 300000) (pos 0) (pos 0) (entry 0 0 0 (pos 0) ∷ []) (pos 0) (pos 0 ∷ pos 0 ∷ pos 0 ∷ [])) ∷
    case (session by_precedence midpoint 3 4 (bids (bid 3 1 3 0 (pos 1000) 3 ∷ bid 2 2 1 0 (pos 1000) 3 ∷ []) (bid 3 2 3 0 (pos 1000) 3 ∷ bid 2 1 2 0 (pos 1000) 3 ∷ [])) (bids (bid 3 2 3 0 (pos 1000) 3 ∷ bid 2 1 2 0 (pos 1000) 3 ∷ []) []))
    (gives (3 ∷ 0 ∷ []) (3 ∷ 3 ∷ []) (3 ∷ 0 ∷ []) [] (pos 1000) (pos 1000) (negsuc 2) (pos 0) (entry 3 1 3 (pos 300) ∷ entry 2 1 2 (negsuc 299) ∷ entry 3 2 3 (negsuc 299) ∷ entry 2 1 2 (pos 300) ∷ entry 0 0 0 (pos 0) ∷ []) (pos 0) (pos 0 ∷ pos 0 ∷ pos 0 ∷ [])) ∷
    case (session in_proportion midpoint 2 4 (bids (bid 1 1 2 1 (pos 1000) 4 ∷ []) []) (bids (bid 2 3 2 0 (pos 1000) 1 ∷ bid 2 1 1 0 (pos 1000) 3 ∷ []) (bid 2 2 1 1 (pos 1000) 4 ∷ bid 3 3 1 1 (pos 1000) 2 ∷ [])))
    (gives (2 ∷ []) [] (1 ∷ 3 ∷ []) (2 ∷ 4 ∷ []) (pos 1000) (pos 1000) (pos 2) (pos 0) (entry 1 1 2 (pos 200) ∷ entry 2 3 2 (pos 100) ∷ entry 2 1 1 (pos 300) ∷ entry 3 3 1 (negsuc 199) ∷ entry 2 2 1 (negsuc 399) ∷ entry 0 0 0 (pos 0) ∷ []) (pos 0) (pos 200 ∷ pos 0 ∷ negsuc 199 ∷ [])) ∷
    case (session by_precedence low_end 0 1 (bids [] (bid 1 1 3 0 (pos 1000) 4 ∷ [])) (bids (bid 1 3 1 1 (pos 1000) 1 ∷ bid 1 1 3 0 (pos 1000) 3 ∷ bid 3 2 2 1 (pos 1000) 3 ∷ []) (bid 1 1 3 1 (pos 1000) 3 ∷ [])))
    (gives [] (1 ∷ []) (3 ∷ 1 ∷ 0 ∷ []) (3 ∷ []) (pos 1000) (pos 1000) (negsuc 0) (pos 0) (entry 1 1 3 (negsuc 99) ∷ entry 1 1 3 (pos 300) ∷ entry 1 3 1 (pos 100) ∷ entry 1 1 3 (negsuc 299) ∷ entry 0 0 0 (pos 0) ∷ []) (pos 0) (pos 0 ∷ pos 0 ∷ pos 0 ∷ [])) ∷
    case (session in_proportion low_end 7 3 (bids (bid 2 2 2 0 (pos 300000) 3 ∷ []) (bid 2 2 1 0 (pos 300000) 3 ∷ bid 2 3 2 0 (pos 300000) 3 ∷ [])) (bids (bid 2 1 2 0 (pos 300000) 3 ∷ bid 2 2 3 0 (negsuc 49999) 3 ∷ bid 1 3 1 0 (pos 300000) 3 ∷ []) (bid 3 2 3 0 (negsuc 49999) 3 ∷ [])))
    (gives (3 ∷ []) (3 ∷ 3 ∷ []) (3 ∷ 0 ∷ 0 ∷ []) (0 ∷ []) (pos 300000) (negsuc 49999) (negsuc 2) (pos 1050000) (entry 2 2 2 (pos 90000) ∷ entry 2 2 1 (negsuc 89999) ∷ entry 2 3 2 (negsuc 89999) ∷ entry 2 2 3 (negsuc 14999) ∷ entry 0 0 0 (pos 105000) ∷ []) (pos 0) (pos 0 ∷ negsuc 104999 ∷ pos 0 ∷ [])) ∷
    case (session by_precedence midpoint 0 0 (bids (bid 2 2 2 0 (pos 300000) 3 ∷ []) (bid 2 3 2 0 (pos 0) 3 ∷ bid 1 1 3 0 (pos 300000) 3 ∷ [])) (bids (bid 3 2 3 0 (negsuc 49999) 3 ∷ []) (bid 2 2 2 0 (negsuc 49999) 3 ∷ bid 3 2 1 0 (pos 15) 3 ∷ bid 2 3 2 0 (negsuc 14) 3 ∷ [])))
    (gives (3 ∷ []) (3 ∷ 0 ∷ []) (3 ∷ []) (3 ∷ 0 ∷ 0 ∷ []) (pos 300000) (pos 0) (pos 0) (pos 150045) (entry 2 2 2 (pos 90000) ∷ entry 1 1 3 (negsuc 89999) ∷ entry 3 2 3 (pos 0) ∷ entry 3 2 1 (pos 0) ∷ entry 0 0 0 (pos 0) ∷ []) (pos 0) (negsuc 89999 ∷ pos 90000 ∷ pos 0 ∷ [])) ∷
    case (session in_proportion midpoint 1 1 (bids (bid 2 1 1 1 (pos 15) 2 ∷ []) (bid 3 1 3 1 (negsuc 14) 3 ∷ bid 3 2 3 1 (pos 300000) 4 ∷ bid 2 1 1 0 (negsuc 14) 4 ∷ [])) (bids (bid 2 3 1 1 (negsuc 49999) 3 ∷ bid 1 1 1 0 (negsuc 49999) 2 ∷ []) []))
    (gives (2 ∷ []) (3 ∷ 0 ∷ 0 ∷ []) (0 ∷ 1 ∷ []) [] (pos 300000) (negsuc 49999) (negsuc 0) (pos 949970) (entry 2 1 1 (pos 60000) ∷ entry 3 2 3 (negsuc 89999) ∷ entry 2 3 1 (negsuc 4999) ∷ entry 0 0 0 (pos 35000) ∷ []) (pos 0) (pos 0 ∷ pos 55000 ∷ negsuc 89999 ∷ [])) ∷
    case (session by_precedence low_end 3 6 (bids (bid 3 1 3 1 (negsuc 49999) 4 ∷ bid 1 3 1 0 (pos 300000) 3 ∷ bid 3 1 1 0 (negsuc 49999) 2 ∷ []) []) (bids (bid 1 2 3 0 (pos 300000) 4 ∷ []) (bid 2 2 2 0 (pos 300000) 1 ∷ bid 3 1 1 0 (negsuc 49999) 1 ∷ bid 3 3 1 0 (pos 300000) 2 ∷ [])))
    (gives (2 ∷ 1 ∷ 0 ∷ []) [] (0 ∷ []) (1 ∷ 2 ∷ 0 ∷ []) (negsuc 49999) (negsuc 49999) (pos 3) (pos 1050000) (entry 3 1 1 (negsuc 9999) ∷ entry 3 1 3 (negsuc 4999) ∷ entry 2 2 2 (pos 5000) ∷ entry 3 3 1 (pos 10000) ∷ entry 0 0 0 (pos 0) ∷ []) (pos 0) (pos 0 ∷ pos 5000 ∷ negsuc 4999 ∷ [])) ∷
    case (session in_proportion low_end 1 0 (bids (bid 1 3 3 0 (negsuc 49999) 3 ∷ []) (bid 1 3 1 1 (negsuc 49999) 3 ∷ bid 3 3 3 1 (pos 300000) 3 ∷ [])) (bids [] (bid 2 1 3 1 (pos 300000) 4 ∷ [])))
    (gives (3 ∷ []) (2 ∷ 0 ∷ []) [] (1 ∷ []) (pos 300000) (pos 300000) (pos 1) (pos 1050000) (entry 1 3 3 (pos 90000) ∷ entry 3 3 3 (negsuc 59999) ∷ entry 2 1 3 (negsuc 29999) ∷ entry 0 0 0 (pos 0) ∷ []) (pos 0) (pos 90000 ∷ negsuc 29999 ∷ negsuc 59999 ∷ [])) ∷
    case (session by_precedence midpoint 0 1 (bids (bid 1 1 3 0 (pos 3000) 3 ∷ bid 2 1 1 0 (pos 5000) 3 ∷ []) (bid 3 3 3 0 (pos 3000) 3 ∷ [])) (bids (bid 3 2 2 0 (pos 1000) 3 ∷ []) (bid 3 3 3 0 (pos 2000) 3 ∷ bid 2 1 1 0 (pos 1000) 3 ∷ [])))
    (gives (2 ∷ 0 ∷ []) (3 ∷ []) (3 ∷ []) (2 ∷ 0 ∷ []) (pos 3000) (pos 2000) (negsuc 0) (pos 4000) (entry 1 1 3 (pos 600) ∷ entry 3 3 3 (negsuc 899) ∷ entry 3 2 2 (pos 600) ∷ entry 3 3 3 (negsuc 399) ∷ entry 0 0 0 (pos 100) ∷ []) (pos 0) (pos 600 ∷ pos 0 ∷ negsuc 699 ∷ [])) ∷
    case (session in_proportion midpoint 4 0 (bids (bid 3 3 2 0 (pos 3) 3 ∷ bid 1 1 1 0 (pos 0) 3 ∷ []) (bid 1 2 3 0 (pos 3) 3 ∷ bid 3 1 3 0 (pos 3) 3 ∷ [])) (bids (bid 1 1 2 0 (pos 0) 3 ∷ bid 2 2 1 0 (pos 3) 3 ∷ []) (bid 3 2 1 0 (pos 0) 3 ∷ bid 2 3 2 0 (negsuc 2) 3 ∷ [])))
    (gives (3 ∷ 3 ∷ []) (3 ∷ 3 ∷ []) (3 ∷ 0 ∷ []) (3 ∷ 0 ∷ []) (pos 3) (pos 0) (pos 0) (pos 9) (entry 1 1 1 (pos 1) ∷ entry 3 3 2 (pos 1) ∷ entry 3 1 3 (negsuc 0) ∷ entry 1 2 3 (negsuc 0) ∷ entry 1 1 2 (pos 0) ∷ entry 3 2 1 (pos 0) ∷ entry 0 0 0 (pos 0) ∷ []) (pos 0) (pos 0 ∷ pos 0 ∷ pos 0 ∷ [])) ∷
    case (session by_precedence low_end 0 1 (bids (bid 1 2 2 0 (negsuc 2) 2 ∷ bid 2 1 3 1 (negsuc 2) 3 ∷ []) (bid 3 2 1 0 (negsuc 2) 1 ∷ [])) (bids (bid 1 2 1 1 (pos 0) 4 ∷ []) (bid 2 2 1 0 (pos 0) 4 ∷ bid 3 3 2 1 (pos 3) 3 ∷ bid 1 1 3 1 (pos 0) 4 ∷ [])))
    (gives (1 ∷ 0 ∷ []) (1 ∷ []) (4 ∷ []) (3 ∷ 1 ∷ 0 ∷ []) (negsuc 2) (pos 0) (pos 0) (pos 9) (entry 1 2 2 (pos 0) ∷ entry 3 2 1 (pos 0) ∷ entry 1 2 1 (pos 0) ∷ entry 3 3 2 (pos 0) ∷ entry 2 2 1 (pos 0) ∷ entry 0 0 0 (pos 0) ∷ []) (pos 0) (pos 0 ∷ pos 0 ∷ pos 0 ∷ [])) ∷
    case (session in_proportion low_end 1 5 (bids (bid 1 2 2 0 (negsuc 49999) 3 ∷ bid 1 2 1 0 (negsuc 49999) 3 ∷ []) []) (bids (bid 3 2 2 0 (pos 300000) 3 ∷ []) (bid 1 3 1 0 (negsuc 49999) 3 ∷ [])))
    (gives (0 ∷ 1 ∷ []) [] (0 ∷ []) (1 ∷ []) (negsuc 49999) (negsuc 49999) (pos 1) (pos 0) (entry 1 2 2 (negsuc 4999) ∷ entry 1 3 1 (pos 5000) ∷ entry 0 0 0 (pos 0) ∷ []) (pos 0) (pos 0 ∷ pos 0 ∷ pos 0 ∷ [])) ∷
    case (session by_precedence midpoint 2 2 (bids (bid 3 1 1 0 (pos 300000) 4 ∷ []) (bid 1 1 1 0 (pos 300000) 3 ∷ bid 3 3 3 1 (pos 300000) 3 ∷ [])) (bids (bid 3 2 3 0 (pos 300000) 3 ∷ bid 2 3 2 1 (negsuc 49999) 2 ∷ bid 3 1 1 0 (pos 300000) 4 ∷ []) (bid 1 1 2 1 (negsuc 49999) 3 ∷ [])))
    (gives (4 ∷ []) (3 ∷ 3 ∷ []) (2 ∷ 0 ∷ 0 ∷ []) (0 ∷ []) (pos 300000) (pos 125000) (negsuc 1) (pos 700000) (entry 3 1 1 (pos 120000) ∷ entry 1 1 1 (negsuc 89999) ∷ entry 3 3 3 (negsuc 89999) ∷ entry 2 3 2 (pos 25000) ∷ entry 0 0 0 (pos 35000) ∷ []) (pos 0) (negsuc 89999 ∷ pos 25000 ∷ pos 30000 ∷ [])) ∷
    case (session in_proportion midpoint 1 1 (bids (bid 3 1 3 0 (pos 2006) 3 ∷ bid 2 2 1 1 (pos 2006) 1 ∷ []) (bid 2 1 2 1 (pos 2006) 1 ∷ bid 1 2 3 1 (pos 2006) 2 ∷ [])) (bids (bid 1 1 1 1 (pos 2006) 3 ∷ bid 3 2 2 0 (pos 2005) 2 ∷ []) (bid 1 3 2 0 (pos 2005) 3 ∷ bid 3 3 3 0 (pos 2006) 1 ∷ [])))
    (gives (1 ∷ 1 ∷ []) (1 ∷ 2 ∷ []) (2 ∷ 0 ∷ []) (1 ∷ 0 ∷ []) (pos 2006) (pos 2005) (negsuc 0) (pos 2) (entry 3 1 3 (pos 201) ∷ entry 2 2 1 (pos 201) ∷ entry 2 1 2 (negsuc 200) ∷ entry 1 2 3 (negsuc 400) ∷ entry 3 2 2 (pos 401) ∷ entry 3 3 3 (negsuc 200) ∷ entry 0 0 0 (pos 0) ∷ []) (pos 0) (negsuc 400 ∷ pos 0 ∷ pos 401 ∷ [])) ∷
    case (session by_precedence low_end 9 8 (bids (bid 3 3 3 1 (pos 0) 1 ∷ bid 1 2 2 0 (pos 15) 3 ∷ []) (bid 3 3 2 1 (pos 0) 2 ∷ bid 3 2 1 0 (pos 300000) 1 ∷ [])) (bids (bid 1 2 1 1 (pos 15) 3 ∷ []) (bid 2 2 2 1 (pos 15) 1 ∷ bid 3 1 2 1 (pos 0) 1 ∷ bid 2 3 3 1 (pos 15) 1 ∷ [])))
    (gives (1 ∷ 2 ∷ []) (1 ∷ 0 ∷ []) (0 ∷ []) (1 ∷ 1 ∷ 0 ∷ []) (pos 15) (pos 15) (pos 2) (pos 300000) (entry 3 3 3 (pos 2) ∷ entry 1 2 2 (pos 3) ∷ entry 3 2 1 (negsuc 1) ∷ entry 2 2 2 (negsuc 1) ∷ entry 2 3 3 (negsuc 1) ∷ entry 0 0 0 (pos 0) ∷ []) (pos 1) (pos 3 ∷ negsuc 3 ∷ pos 0 ∷ [])) ∷
    case (session in_proportion low_end 0 0 (bids (bid 3 3 3 1 (pos 1000) 4 ∷ []) (bid 3 3 2 0 (pos 1000) 1 ∷ [])) (bids (bid 1 3 2 0 (pos 1000) 4 ∷ []) []))
    (gives (1 ∷ []) (1 ∷ []) (0 ∷ []) [] (pos 1000) (pos 1000) (pos 0) (pos 0) (entry 3 3 3 (pos 100) ∷ entry 3 3 2 (negsuc 99) ∷ entry 0 0 0 (pos 0) ∷ []) (pos 0) (pos 0 ∷ pos 0 ∷ pos 0 ∷ [])) ∷
    case (session by_precedence midpoint 1 0 (bids (bid 3 3 2 0 (pos 0) 4 ∷ []) (bid 2 1 3 1 (negsuc 49999) 1 ∷ bid 3 3 1 1 (pos 300000) 4 ∷ bid 3 2 2 1 (pos 0) 2 ∷ [])) (bids [] (bid 2 3 3 1 (pos 300000) 2 ∷ bid 2 3 1 1 (pos 15) 3 ∷ [])))
    (gives (4 ∷ []) (3 ∷ 0 ∷ 0 ∷ []) [] (1 ∷ 0 ∷ []) (pos 300000) (pos 300000) (pos 1) (pos 1200000) (entry 3 3 2 (pos 120000) ∷ entry 3 3 1 (negsuc 89999) ∷ entry 2 3 3 (negsuc 29999) ∷ entry 0 0 0 (pos 0) ∷ []) (pos 0) (pos 0 ∷ negsuc 29999 ∷ pos 30000 ∷ [])) ∷
    case (session in_proportion midpoint 6 2 (bids (bid 1 3 1 0 (pos 2005) 3 ∷ []) (bid 3 3 1 0 (pos 2005) 3 ∷ [])) (bids (bid 3 3 2 0 (pos 2005) 3 ∷ bid 2 1 2 0 (pos 2005) 3 ∷ []) (bid 1 2 1 0 (negsuc 2004) 3 ∷ [])))
    (gives (1 ∷ []) (3 ∷ []) (1 ∷ 1 ∷ []) (0 ∷ []) (pos 2005) (pos 2005) (negsuc 1) (pos 0) (entry 1 3 1 (pos 201) ∷ entry 3 3 1 (negsuc 601) ∷ entry 2 1 2 (pos 201) ∷ entry 3 3 2 (pos 201) ∷ entry 0 0 0 (pos 0) ∷ []) (negsuc 0) (pos 201 ∷ pos 201 ∷ negsuc 400 ∷ [])) ∷
    case (session by_precedence low_end 0 2 (bids (bid 2 3 2 1 (pos 2006) 4 ∷ bid 3 3 1 0 (pos 2006) 4 ∷ []) (bid 2 2 3 1 (pos 2006) 4 ∷ bid 1 3 1 1 (pos 2005) 1 ∷ [])) (bids (bid 1 3 3 0 (pos 2005) 2 ∷ bid 2 1 2 1 (pos 2005) 3 ∷ bid 3 1 3 1 (pos 2005) 3 ∷ []) (bid 2 2 1 0 (pos 2005) 2 ∷ [])))
    (gives (2 ∷ 0 ∷ []) (4 ∷ 0 ∷ []) (2 ∷ 2 ∷ 0 ∷ []) (2 ∷ []) (pos 2006) (pos 2005) (negsuc 1) (pos 2) (entry 3 3 1 (pos 401) ∷ entry 2 2 3 (negsuc 801) ∷ entry 1 3 3 (pos 401) ∷ entry 2 1 2 (pos 401) ∷ entry 2 2 1 (negsuc 400) ∷ entry 0 0 0 (pos 0) ∷ []) (pos 0) (pos 401 ∷ negsuc 801 ∷ pos 401 ∷ [])) ∷
    case (session in_proportion low_end 3 4 (bids (bid 1 3 3 1 (pos 0) 1 ∷ []) []) (bids (bid 2 3 2 0 (pos 3) 3 ∷ []) (bid 1 2 2 1 (pos 0) 4 ∷ bid 2 2 3 0 (pos 0) 1 ∷ bid 1 3 2 0 (pos 0) 3 ∷ [])))
    (gives (1 ∷ []) [] (0 ∷ []) (0 ∷ 0 ∷ 1 ∷ []) (pos 0) (pos 0) (pos 1) (pos 0) (entry 1 3 3 (pos 0) ∷ entry 1 2 2 (pos 0) ∷ entry 0 0 0 (pos 0) ∷ []) (pos 0) (pos 0 ∷ pos 0 ∷ pos 0 ∷ [])) ∷
    case (session by_precedence midpoint 2 9 (bids (bid 2 3 2 0 (pos 1000) 1 ∷ bid 3 3 3 1 (pos 1000) 3 ∷ []) (bid 1 1 1 1 (pos 1000) 3 ∷ [])) (bids (bid 1 2 2 1 (pos 1000) 4 ∷ bid 3 3 1 1 (pos 1000) 1 ∷ []) (bid 2 2 1 1 (pos 1000) 1 ∷ bid 2 2 3 0 (pos 1000) 2 ∷ [])))
    (gives (1 ∷ 3 ∷ []) (3 ∷ []) (1 ∷ 1 ∷ []) (2 ∷ 1 ∷ []) (pos 1000) (pos 1000) (pos 1) (pos 0) (entry 2 3 2 (pos 100) ∷ entry 3 3 3 (pos 300) ∷ entry 1 1 1 (negsuc 299) ∷ entry 3 3 1 (pos 100) ∷ entry 1 2 2 (pos 100) ∷ entry 2 2 3 (negsuc 199) ∷ entry 2 2 1 (negsuc 99) ∷ entry 0 0 0 (pos 0) ∷ []) (pos 0) (negsuc 199 ∷ negsuc 199 ∷ pos 400 ∷ [])) ∷
    case (session in_proportion midpoint 1 2 (bids (bid 1 1 3 0 (negsuc 49999) 3 ∷ bid 1 3 3 0 (negsuc 49999) 3 ∷ []) (bid 3 1 3 0 (negsuc 49999) 3 ∷ bid 1 1 2 0 (pos 300000) 3 ∷ [])) (bids (bid 1 1 3 0 (negsuc 49999) 3 ∷ []) (bid 3 1 1 0 (pos 300000) 3 ∷ bid 3 3 2 0 (pos 300000) 3 ∷ bid 2 2 3 0 (negsuc 49999) 3 ∷ [])))
    (gives (3 ∷ 3 ∷ []) (3 ∷ 2 ∷ []) (3 ∷ []) (2 ∷ 2 ∷ 0 ∷ []) (negsuc 49999) (pos 300000) (pos 1) (pos 2450000) (entry 1 1 3 (negsuc 14999) ∷ entry 1 3 3 (negsuc 14999) ∷ entry 1 1 2 (pos 15000) ∷ entry 3 1 3 (pos 10000) ∷ entry 1 1 3 (pos 90000) ∷ entry 3 1 1 (negsuc 59999) ∷ entry 3 3 2 (negsuc 59999) ∷ entry 0 0 0 (pos 35000) ∷ []) (pos 0) (pos 75000 ∷ pos 0 ∷ negsuc 109999 ∷ [])) ∷
    case (session by_precedence low_end 1 1 (bids (bid 2 2 1 1 (negsuc 49999) 4 ∷ []) (bid 1 3 3 0 (negsuc 49999) 1 ∷ bid 1 1 3 0 (negsuc 49999) 3 ∷ bid 1 3 1 1 (pos 300000) 3 ∷ [])) (bids [] (bid 1 3 1 1 (negsuc 49999) 1 ∷ bid 3 2 1 0 (negsuc 49999) 1 ∷ [])))
    (gives (4 ∷ []) (3 ∷ 0 ∷ 0 ∷ []) [] (1 ∷ 0 ∷ []) (negsuc 49999) (negsuc 49999) (pos 1) (pos 1050000) (entry 2 2 1 (negsuc 19999) ∷ entry 1 3 1 (pos 15000) ∷ entry 3 2 1 (pos 5000) ∷ entry 0 0 0 (pos 0) ∷ []) (pos 0) (pos 15000 ∷ negsuc 19999 ∷ pos 5000 ∷ [])) ∷
    case (session in_proportion low_end 1 2 (bids (bid 2 1 3 0 (pos 300000) 1 ∷ []) (bid 1 3 3 1 (pos 300000) 1 ∷ bid 1 2 3 0 (pos 299999) 4 ∷ [])) (bids (bid 2 3 2 1 (negsuc 49999) 4 ∷ bid 2 2 3 0 (negsuc 49998) 2 ∷ bid 3 2 1 1 (pos 299999) 1 ∷ []) (bid 1 3 2 0 (negsuc 49998) 1 ∷ [])))
    (gives (0 ∷ []) (1 ∷ 1 ∷ []) (3 ∷ 0 ∷ 0 ∷ []) (1 ∷ []) (pos 299999) (negsuc 49999) (negsuc 1) (pos 700000) (entry 1 3 3 (negsuc 29999) ∷ entry 1 2 3 (negsuc 29999) ∷ entry 2 3 2 (negsuc 14999) ∷ entry 1 3 2 (pos 5000) ∷ entry 0 0 0 (pos 70000) ∷ []) (pos 0) (negsuc 54999 ∷ negsuc 14999 ∷ pos 0 ∷ [])) ∷
    case (session by_precedence midpoint 1 0 (bids (bid 3 2 1 0 (pos 0) 3 ∷ bid 2 2 3 0 (pos 3) 3 ∷ bid 2 3 3 0 (pos 3) 3 ∷ []) (bid 3 1 3 0 (negsuc 2) 3 ∷ [])) (bids [] (bid 1 1 1 0 (negsuc 2) 3 ∷ [])))
    (gives (0 ∷ 0 ∷ 0 ∷ []) (0 ∷ []) [] (0 ∷ []) (negsuc 1) (negsuc 1) (pos 0) (pos 0) (entry 0 0 0 (pos 0) ∷ []) (pos 0) (pos 0 ∷ pos 0 ∷ pos 0 ∷ [])) ∷
    case (session in_proportion midpoint 0 0 (bids (bid 2 3 1 0 (pos 1000) 3 ∷ []) []) (bids (bid 3 3 3 0 (pos 1000) 3 ∷ []) (bid 2 1 2 0 (pos 1000) 3 ∷ bid 3 1 3 0 (pos 1000) 3 ∷ [])))
    (gives (0 ∷ []) [] (3 ∷ []) (1 ∷ 2 ∷ []) (negsuc 24499) (pos 1000) (pos 0) (pos 0) (entry 3 3 3 (pos 300) ∷ entry 2 1 2 (negsuc 99) ∷ entry 3 1 3 (negsuc 199) ∷ entry 0 0 0 (pos 0) ∷ []) (pos 0) (pos 0 ∷ negsuc 99 ∷ pos 100 ∷ [])) ∷
    case (session by_precedence low_end 1 2 (bids (bid 2 3 1 0 (negsuc 2004) 2 ∷ bid 2 1 2 0 (negsuc 0) 1 ∷ []) (bid 2 3 3 1 (pos 1) 4 ∷ bid 1 2 1 1 (negsuc 2004) 3 ∷ [])) (bids (bid 3 3 2 1 (pos 1) 1 ∷ bid 2 1 2 0 (negsuc 0) 2 ∷ []) (bid 3 3 1 1 (pos 2005) 3 ∷ bid 3 3 2 1 (pos 1) 3 ∷ [])))
    (gives (2 ∷ 1 ∷ []) (2 ∷ 0 ∷ []) (2 ∷ 1 ∷ []) (3 ∷ 1 ∷ []) (pos 1) (pos 1) (pos 1) (pos 10030) (entry 2 3 1 (pos 0) ∷ entry 2 1 2 (pos 0) ∷ entry 2 3 3 (pos 0) ∷ entry 2 1 2 (pos 0) ∷ entry 3 3 2 (pos 0) ∷ entry 3 3 1 (pos 0) ∷ entry 3 3 2 (pos 0) ∷ entry 0 0 0 (pos 0) ∷ []) (pos 0) (pos 0 ∷ pos 0 ∷ pos 0 ∷ [])) ∷
    case (session in_proportion low_end 1 1 (bids [] (bid 2 1 3 0 (pos 2006) 3 ∷ bid 2 2 1 0 (pos 2005) 3 ∷ bid 1 2 2 0 (pos 2005) 3 ∷ [])) (bids (bid 1 3 2 0 (pos 2005) 3 ∷ bid 1 1 3 0 (pos 2006) 3 ∷ []) (bid 3 2 3 0 (pos 2006) 3 ∷ [])))
    (gives [] (1 ∷ 0 ∷ 0 ∷ []) (3 ∷ 1 ∷ []) (3 ∷ []) (pos 2006) (pos 2006) (negsuc 0) (pos 3) (entry 2 1 3 (negsuc 200) ∷ entry 1 3 2 (pos 602) ∷ entry 1 1 3 (pos 201) ∷ entry 3 2 3 (negsuc 601) ∷ entry 0 0 0 (pos 0) ∷ []) (pos 0) (pos 803 ∷ negsuc 200 ∷ negsuc 601 ∷ [])) ∷
    case (session by_precedence midpoint 6 4 (bids (bid 1 2 2 0 (pos 300000) 3 ∷ []) (bid 3 2 3 0 (pos 300000) 3 ∷ bid 2 1 1 0 (pos 300000) 3 ∷ [])) (bids (bid 3 2 3 0 (negsuc 49999) 3 ∷ bid 3 3 2 0 (pos 300000) 3 ∷ bid 1 1 3 0 (pos 300000) 3 ∷ bid 2 3 3 0 (pos 300000) 3 ∷ []) []))
    (gives (2 ∷ []) (3 ∷ 3 ∷ []) (3 ∷ 1 ∷ 0 ∷ 0 ∷ []) [] (pos 300000) (pos 300000) (negsuc 3) (pos 1050000) (entry 1 2 2 (pos 60000) ∷ entry 2 1 1 (negsuc 89999) ∷ entry 3 2 3 (negsuc 89999) ∷ entry 3 2 3 (pos 90000) ∷ entry 1 1 3 (pos 30000) ∷ entry 0 0 0 (pos 0) ∷ []) (pos 0) (pos 90000 ∷ negsuc 89999 ∷ pos 0 ∷ [])) ∷
    case (session in_proportion midpoint 0 0 (bids [] (bid 3 1 3 0 (pos 1000) 3 ∷ bid 1 1 2 0 (pos 1000) 3 ∷ bid 2 3 2 0 (pos 1000) 3 ∷ [])) (bids [] []))
    (gives [] (0 ∷ 0 ∷ 0 ∷ []) [] [] (pos 150500) (pos 150500) (pos 0) (pos 0) (entry 0 0 0 (pos 0) ∷ []) (pos 0) (pos 0 ∷ pos 0 ∷ pos 0 ∷ [])) ∷
    case (session by_precedence low_end 2 0 (bids (bid 3 1 2 0 (negsuc 49999) 3 ∷ []) (bid 3 1 1 0 (pos 300000) 3 ∷ bid 3 2 1 0 (pos 300000) 3 ∷ [])) (bids (bid 2 3 2 0 (negsuc 49999) 3 ∷ bid 2 1 1 0 (negsuc 49999) 3 ∷ []) (bid 2 1 1 0 (pos 300000) 3 ∷ [])))
    (gives (3 ∷ []) (3 ∷ 0 ∷ []) (3 ∷ 0 ∷ []) (3 ∷ []) (pos 300000) (negsuc 49999) (pos 0) (pos 2100000) (entry 3 1 2 (pos 90000) ∷ entry 3 1 1 (negsuc 89999) ∷ entry 2 1 1 (negsuc 14999) ∷ entry 2 1 1 (pos 15000) ∷ entry 0 0 0 (pos 0) ∷ []) (pos 0) (pos 0 ∷ pos 0 ∷ pos 0 ∷ [])) ∷
    case (session in_proportion low_end 1 2 (bids (bid 1 1 1 1 (pos 3) 3 ∷ []) (bid 1 1 2 1 (pos 0) 4 ∷ bid 2 2 1 1 (negsuc 2) 2 ∷ [])) (bids (bid 2 3 3 1 (pos 3) 1 ∷ bid 3 2 3 0 (pos 3) 2 ∷ []) (bid 2 3 2 0 (pos 3) 4 ∷ [])))
    (gives (1 ∷ []) (0 ∷ 0 ∷ []) (2 ∷ 1 ∷ []) (4 ∷ []) (pos 3) (pos 3) (pos 1) (pos 0) (entry 1 1 1 (pos 0) ∷ entry 3 2 3 (pos 1) ∷ entry 2 3 3 (pos 0) ∷ entry 2 3 2 (negsuc 0) ∷ entry 0 0 0 (pos 0) ∷ []) (pos 0) (pos 0 ∷ negsuc 0 ∷ pos 1 ∷ [])) ∷
    case (session by_precedence midpoint 2 2 (bids (bid 1 1 1 0 (negsuc 2) 3 ∷ bid 2 2 1 0 (pos 0) 3 ∷ bid 2 2 2 0 (pos 3) 3 ∷ []) (bid 3 1 2 0 (pos 0) 3 ∷ [])) (bids [] (bid 1 3 2 0 (pos 0) 3 ∷ [])))
    (gives (3 ∷ 2 ∷ 0 ∷ []) (3 ∷ []) [] (2 ∷ []) (pos 0) (pos 0) (pos 2) (pos 9) (entry 1 1 1 (pos 0) ∷ entry 2 2 1 (pos 0) ∷ entry 3 1 2 (pos 0) ∷ entry 1 3 2 (pos 0) ∷ entry 0 0 0 (pos 0) ∷ []) (pos 0) (pos 0 ∷ pos 0 ∷ pos 0 ∷ [])) ∷
    case (session in_proportion midpoint 5 2 (bids [] (bid 1 3 2 1 (pos 1000) 2 ∷ bid 1 1 2 1 (pos 1000) 2 ∷ [])) (bids (bid 2 2 3 1 (pos 1000) 3 ∷ []) []))
    (gives [] (1 ∷ 1 ∷ []) (2 ∷ []) [] (pos 1000) (pos 1000) (negsuc 1) (pos 0) (entry 1 1 2 (negsuc 99) ∷ entry 1 3 2 (negsuc 99) ∷ entry 2 2 3 (pos 200) ∷ entry 0 0 0 (pos 0) ∷ []) (pos 0) (negsuc 199 ∷ pos 200 ∷ pos 0 ∷ [])) ∷
    case (session by_precedence low_end 0 6 (bids (bid 1 3 1 0 (pos 3) 2 ∷ []) []) (bids (bid 2 2 1 1 (negsuc 2) 1 ∷ bid 1 3 2 0 (pos 3) 4 ∷ bid 1 3 1 1 (pos 3) 2 ∷ []) (bid 2 2 3 1 (negsuc 2) 4 ∷ [])))
    (gives (0 ∷ []) [] (1 ∷ 0 ∷ 0 ∷ []) (1 ∷ []) (negsuc 2) (negsuc 2) (pos 0) (pos 0) (entry 2 2 1 (pos 0) ∷ entry 2 2 3 (pos 0) ∷ entry 0 0 0 (pos 0) ∷ []) (pos 0) (pos 0 ∷ pos 0 ∷ pos 0 ∷ [])) ∷
    case (session in_proportion low_end 0 0 (bids (bid 1 2 2 1 (negsuc 49999) 4 ∷ []) (bid 3 2 2 1 (negsuc 49999) 1 ∷ bid 3 1 2 1 (negsuc 49999) 4 ∷ [])) (bids [] []))
    (gives (4 ∷ []) (0 ∷ 4 ∷ []) [] [] (negsuc 49999) (negsuc 49999) (pos 0) (pos 0) (entry 1 2 2 (negsuc 19999) ∷ entry 3 1 2 (pos 20000) ∷ entry 0 0 0 (pos 0) ∷ []) (pos 0) (negsuc 19999 ∷ pos 0 ∷ pos 20000 ∷ [])) ∷
    case (session by_precedence midpoint 1 5 (bids (bid 1 3 3 1 (pos 3) 3 ∷ bid 1 3 2 1 (pos 3) 3 ∷ bid 2 2 2 1 (pos 3) 4 ∷ []) (bid 1 1 2 0 (pos 3) 4 ∷ [])) (bids (bid 2 2 1 0 (pos 0) 3 ∷ []) (bid 3 3 2 0 (pos 3) 1 ∷ bid 2 1 3 1 (pos 3) 4 ∷ bid 2 3 1 1 (pos 3) 1 ∷ [])))
    (gives (3 ∷ 2 ∷ 0 ∷ []) (4 ∷ []) (3 ∷ []) (1 ∷ 1 ∷ 2 ∷ []) (pos 3) (pos 3) (pos 1) (pos 9) (entry 1 3 2 (pos 1) ∷ entry 1 3 3 (pos 1) ∷ entry 1 1 2 (negsuc 0) ∷ entry 2 2 1 (pos 1) ∷ entry 3 3 2 (pos 0) ∷ entry 2 3 1 (pos 0) ∷ entry 2 1 3 (negsuc 0) ∷ entry 0 0 0 (pos 0) ∷ []) (negsuc 0) (pos 1 ∷ pos 0 ∷ pos 0 ∷ [])) ∷
    case (session in_proportion midpoint 1 1 (bids [] (bid 3 3 3 1 (pos 300000) 2 ∷ [])) (bids (bid 2 3 2 1 (pos 300000) 1 ∷ bid 1 2 3 1 (negsuc 14) 2 ∷ bid 1 2 2 1 (negsuc 14) 2 ∷ []) (bid 2 3 1 0 (pos 300000) 3 ∷ [])))
    (gives [] (1 ∷ []) (2 ∷ 2 ∷ 0 ∷ []) (3 ∷ []) (pos 300000) (pos 149992) (negsuc 0) (pos 1200060) (entry 3 3 3 (negsuc 29999) ∷ entry 1 2 2 (pos 29998) ∷ entry 1 2 3 (pos 29998) ∷ entry 2 3 1 (negsuc 44997) ∷ entry 0 0 0 (pos 15001) ∷ []) (pos 1) (pos 59996 ∷ negsuc 44997 ∷ negsuc 29999 ∷ [])) ∷
    case (session by_precedence low_end 1 1 (bids (bid 1 3 2 1 (pos 299999) 2 ∷ bid 2 3 3 1 (negsuc 49998) 2 ∷ bid 3 1 2 0 (pos 300000) 4 ∷ []) (bid 3 1 2 0 (pos 300000) 2 ∷ [])) (bids (bid 2 1 2 0 (negsuc 49998) 3 ∷ []) []))
    (gives (1 ∷ 0 ∷ 0 ∷ []) (2 ∷ []) (1 ∷ []) [] (negsuc 49998) (negsuc 49998) (negsuc 0) (pos 699998) (entry 2 3 3 (negsuc 4999) ∷ entry 3 1 2 (pos 10000) ∷ entry 2 1 2 (negsuc 4999) ∷ entry 0 0 0 (pos 0) ∷ []) (pos 0) (pos 0 ∷ negsuc 9999 ∷ pos 10000 ∷ [])) ∷
    case (session in_proportion low_end 5 5 (bids (bid 2 3 2 1 (pos 2005) 3 ∷ bid 1 2 3 0 (pos 2006) 2 ∷ []) []) (bids [] (bid 1 1 3 0 (pos 2006) 3 ∷ [])))
    (gives (3 ∷ 0 ∷ []) [] [] (3 ∷ []) (pos 2005) (pos 2005) (pos 3) (pos 3) (entry 2 3 2 (pos 602) ∷ entry 1 1 3 (negsuc 601) ∷ entry 0 0 0 (pos 0) ∷ []) (pos 0) (negsuc 601 ∷ pos 602 ∷ pos 0 ∷ [])) ∷
    case (session by_precedence midpoint 1 2 (bids (bid 1 2 3 1 (pos 15) 3 ∷ bid 1 3 3 1 (pos 15) 1 ∷ []) (bid 1 2 1 0 (pos 300000) 2 ∷ bid 2 2 2 1 (negsuc 49999) 4 ∷ [])) (bids (bid 1 3 3 1 (negsuc 49999) 4 ∷ bid 3 2 1 0 (negsuc 49999) 1 ∷ []) (bid 3 1 3 1 (pos 300000) 1 ∷ bid 2 3 1 1 (pos 300000) 4 ∷ [])))
    (gives (1 ∷ 1 ∷ []) (2 ∷ 0 ∷ []) (1 ∷ 4 ∷ []) (1 ∷ 4 ∷ []) (pos 15) (pos 15) (pos 0) (pos 2349970) (entry 1 3 3 (pos 2) ∷ entry 1 2 3 (pos 2) ∷ entry 1 2 1 (negsuc 2) ∷ entry 3 2 1 (pos 2) ∷ entry 1 3 3 (pos 6) ∷ entry 3 1 3 (negsuc 1) ∷ entry 2 3 1 (negsuc 5) ∷ entry 0 0 0 (pos 0) ∷ []) (negsuc 0) (pos 7 ∷ negsuc 5 ∷ pos 0 ∷ [])) ∷
    case (session in_proportion midpoint 1 2 (bids (bid 1 2 1 0 (negsuc 14) 3 ∷ bid 3 1 2 0 (pos 300000) 3 ∷ []) (bid 1 2 2 0 (negsuc 14) 3 ∷ bid 1 3 1 0 (negsuc 49999) 3 ∷ [])) (bids (bid 3 3 1 0 (pos 0) 3 ∷ bid 3 3 2 0 (pos 15) 3 ∷ []) (bid 2 1 1 0 (pos 300000) 3 ∷ bid 1 2 2 0 (pos 0) 3 ∷ [])))
    (gives (3 ∷ 0 ∷ []) (2 ∷ 0 ∷ []) (3 ∷ 0 ∷ []) (3 ∷ 1 ∷ []) (negsuc 14) (pos 0) (pos 1) (pos 900015) (entry 1 2 1 (negsuc 4) ∷ entry 1 2 2 (pos 3) ∷ entry 3 3 1 (pos 0) ∷ entry 2 1 1 (pos 0) ∷ entry 1 2 2 (pos 0) ∷ entry 0 0 0 (pos 2) ∷ []) (pos 0) (negsuc 1 ∷ pos 0 ∷ pos 0 ∷ [])) ∷
    case (session by_precedence low_end 2 1 (bids (bid 2 2 3 0 (negsuc 49999) 3 ∷ bid 1 2 1 1 (negsuc 49998) 4 ∷ []) (bid 1 2 1 0 (negsuc 49999) 1 ∷ [])) (bids (bid 2 1 3 1 (negsuc 49998) 2 ∷ bid 2 3 1 0 (negsuc 49999) 4 ∷ []) (bid 2 1 2 0 (pos 300000) 3 ∷ bid 3 3 1 1 (pos 299999) 4 ∷ [])))
    (gives (3 ∷ 0 ∷ []) (1 ∷ []) (4 ∷ 1 ∷ []) (3 ∷ 4 ∷ []) (negsuc 49999) (negsuc 49998) (pos 2) (pos 2449995) (entry 2 2 3 (negsuc 14999) ∷ entry 1 2 1 (pos 5000) ∷ entry 2 3 1 (negsuc 19999) ∷ entry 2 1 3 (negsuc 4999) ∷ entry 2 1 2 (pos 15000) ∷ entry 3 3 1 (pos 20000) ∷ entry 0 0 0 (pos 0) ∷ []) (pos 0) (pos 5000 ∷ negsuc 24999 ∷ pos 20000 ∷ [])) ∷
    case (session in_proportion low_end 2 2 (bids (bid 2 1 2 0 (negsuc 49999) 1 ∷ bid 2 1 3 0 (pos 300000) 3 ∷ []) (bid 3 1 3 0 (negsuc 49999) 2 ∷ bid 2 2 1 1 (pos 300000) 4 ∷ [])) (bids (bid 3 3 3 1 (negsuc 49999) 2 ∷ bid 1 1 1 0 (negsuc 49999) 2 ∷ bid 3 2 1 0 (negsuc 49999) 4 ∷ []) (bid 1 1 1 0 (negsuc 49999) 2 ∷ [])))
    (gives (1 ∷ 1 ∷ []) (4 ∷ 0 ∷ []) (1 ∷ 2 ∷ 1 ∷ []) (2 ∷ []) (pos 300000) (negsuc 49999) (negsuc 1) (pos 1050000) (entry 2 1 2 (pos 30000) ∷ entry 2 1 3 (pos 30000) ∷ entry 2 2 1 (negsuc 119999) ∷ entry 1 1 1 (negsuc 4999) ∷ entry 3 2 1 (negsuc 9999) ∷ entry 3 3 3 (negsuc 4999) ∷ entry 1 1 1 (pos 10000) ∷ entry 0 0 0 (pos 70000) ∷ []) (pos 0) (pos 5000 ∷ negsuc 59999 ∷ negsuc 14999 ∷ [])) ∷
    case (session by_precedence midpoint 0 0 (bids (bid 2 2 2 1 (pos 300000) 3 ∷ []) (bid 2 1 2 1 (negsuc 49999) 3 ∷ bid 1 3 3 1 (pos 300000) 3 ∷ bid 2 2 1 0 (pos 300000) 1 ∷ [])) (bids (bid 2 1 1 1 (negsuc 49999) 2 ∷ []) []))
    (gives (3 ∷ []) (1 ∷ 2 ∷ 0 ∷ []) (0 ∷ []) [] (pos 300000) (negsuc 49999) (pos 0) (pos 0) (entry 2 2 2 (pos 90000) ∷ entry 2 2 1 (negsuc 29999) ∷ entry 1 3 3 (negsuc 59999) ∷ entry 0 0 0 (pos 0) ∷ []) (pos 0) (negsuc 59999 ∷ pos 60000 ∷ pos 0 ∷ [])) ∷
    case (session in_proportion midpoint 1 5 (bids (bid 2 2 2 0 (pos 0) 3 ∷ bid 2 1 2 0 (pos 0) 3 ∷ []) (bid 2 3 2 0 (negsuc 49999) 3 ∷ bid 3 3 1 0 (pos 0) 3 ∷ [])) (bids (bid 3 3 3 0 (pos 15) 3 ∷ bid 3 1 1 0 (pos 300000) 3 ∷ []) []))
    (gives (1 ∷ 2 ∷ []) (3 ∷ 0 ∷ []) (0 ∷ 0 ∷ []) [] (pos 0) (pos 0) (pos 0) (pos 0) (entry 2 1 2 (pos 0) ∷ entry 2 2 2 (pos 0) ∷ entry 3 3 1 (pos 0) ∷ entry 0 0 0 (pos 0) ∷ []) (pos 0) (pos 0 ∷ pos 0 ∷ pos 0 ∷ [])) ∷
    case (session by_precedence low_end 1 1 (bids (bid 3 2 1 0 (pos 1000) 3 ∷ bid 1 1 2 1 (pos 1000) 2 ∷ []) (bid 1 1 2 1 (pos 1000) 2 ∷ [])) (bids (bid 3 1 1 1 (pos 1000) 2 ∷ bid 2 3 1 0 (pos 1000) 2 ∷ []) (bid 3 3 2 0 (pos 1000) 4 ∷ bid 2 1 2 0 (pos 1000) 4 ∷ [])))
    (gives (3 ∷ 0 ∷ []) (2 ∷ []) (2 ∷ 2 ∷ []) (4 ∷ 1 ∷ []) (pos 1000) (pos 1000) (pos 1) (pos 0) (entry 3 2 1 (pos 300) ∷ entry 1 1 2 (negsuc 199) ∷ entry 2 3 1 (pos 200) ∷ entry 3 1 1 (pos 200) ∷ entry 2 1 2 (negsuc 399) ∷ entry 3 3 2 (negsuc 99) ∷ entry 0 0 0 (pos 0) ∷ []) (pos 0) (negsuc 199 ∷ negsuc 199 ∷ pos 400 ∷ [])) ∷
    case (session in_proportion low_end 2 1 (bids [] (bid 2 2 1 0 (pos 1) 2 ∷ bid 1 2 3 1 (pos 2005) 2 ∷ [])) (bids (bid 3 3 1 1 (negsuc 0) 2 ∷ []) (bid 3 3 3 1 (negsuc 0) 4 ∷ bid 3 1 2 0 (negsuc 2004) 3 ∷ bid 2 3 1 1 (pos 2005) 1 ∷ [])))
    (gives [] (1 ∷ 0 ∷ []) (2 ∷ []) (1 ∷ 0 ∷ 0 ∷ []) (pos 2005) (negsuc 0) (negsuc 0) (pos 4012) (entry 1 2 3 (negsuc 200) ∷ entry 3 3 1 (pos 0) ∷ entry 2 3 1 (pos 0) ∷ entry 0 0 0 (pos 201) ∷ []) (pos 0) (negsuc 200 ∷ pos 0 ∷ pos 0 ∷ [])) ∷
    case (session by_precedence midpoint 0 1 (bids (bid 3 1 3 1 (pos 0) 1 ∷ bid 2 3 3 0 (pos 3) 4 ∷ []) (bid 1 1 1 0 (negsuc 2) 1 ∷ bid 2 3 1 0 (pos 0) 3 ∷ [])) (bids (bid 3 3 2 1 (pos 0) 3 ∷ []) (bid 2 2 1 0 (negsuc 2) 2 ∷ bid 2 3 1 1 (negsuc 2) 1 ∷ [])))
    (gives (1 ∷ 0 ∷ []) (2 ∷ 0 ∷ []) (1 ∷ []) (0 ∷ 0 ∷ []) (pos 0) (pos 0) (negsuc 0) (pos 0) (entry 3 1 3 (pos 0) ∷ entry 2 3 1 (pos 0) ∷ entry 3 3 2 (pos 0) ∷ entry 0 0 0 (pos 0) ∷ []) (pos 0) (pos 0 ∷ pos 0 ∷ pos 0 ∷ [])) ∷
    case (session in_proportion midpoint 0 0 (bids (bid 2 2 2 0 (pos 2006) 3 ∷ []) (bid 2 1 3 0 (pos 2005) 3 ∷ bid 3 2 1 0 (pos 2005) 3 ∷ bid 2 1 2 0 (pos 2005) 3 ∷ [])) (bids [] []))
    (gives (0 ∷ []) (0 ∷ 0 ∷ 0 ∷ []) [] [] (pos 2005) (pos 2005) (pos 0) (pos 0) (entry 0 0 0 (pos 0) ∷ []) (pos 0) (pos 0 ∷ pos 0 ∷ pos 0 ∷ [])) ∷
    case (session by_precedence low_end 0 0 (bids (bid 2 3 2 0 (pos 1000) 2 ∷ []) (bid 3 2 2 0 (pos 1000) 1 ∷ bid 3 1 3 0 (pos 1000) 3 ∷ [])) (bids (bid 3 3 2 0 (pos 1000) 3 ∷ []) (bid 3 1 2 0 (pos 1000) 2 ∷ bid 1 3 3 1 (pos 1000) 2 ∷ [])))
    (gives (2 ∷ []) (1 ∷ 1 ∷ []) (3 ∷ []) (2 ∷ 1 ∷ []) (pos 1000) (pos 1000) (pos 0) (pos 0) (entry 2 3 2 (pos 200) ∷ entry 3 2 2 (negsuc 99) ∷ entry 3 1 3 (negsuc 99) ∷ entry 3 3 2 (pos 300) ∷ entry 3 1 2 (negsuc 199) ∷ entry 1 3 3 (negsuc 99) ∷ entry 0 0 0 (pos 0) ∷ []) (pos 0) (negsuc 99 ∷ pos 200 ∷ negsuc 99 ∷ [])) ∷
    case (session in_proportion low_end 1 1 (bids (bid 1 3 3 1 (pos 2006) 1 ∷ bid 2 2 3 1 (pos 2006) 1 ∷ bid 1 2 1 1 (pos 2005) 3 ∷ bid 1 1 3 0 (pos 2006) 3 ∷ []) []) (bids (bid 2 3 2 0 (pos 2005) 4 ∷ []) (bid 1 1 3 0 (pos 2006) 4 ∷ bid 2 2 3 0 (pos 2005) 4 ∷ [])))
    (gives (1 ∷ 0 ∷ 0 ∷ 0 ∷ []) [] (4 ∷ []) (4 ∷ 1 ∷ []) (pos 2005) (pos 2005) (pos 1) (pos 4) (entry 1 2 1 (pos 201) ∷ entry 2 3 2 (pos 802) ∷ entry 1 1 3 (negsuc 801) ∷ entry 2 2 3 (negsuc 200) ∷ entry 0 0 0 (pos 0) ∷ []) (pos 0) (negsuc 600 ∷ pos 601 ∷ pos 0 ∷ [])) ∷
    case (session by_precedence midpoint 1 1 (bids (bid 1 1 1 1 (negsuc 49999) 3 ∷ bid 2 3 2 0 (negsuc 49999) 4 ∷ []) (bid 1 3 1 1 (pos 300000) 1 ∷ [])) (bids (bid 1 2 2 1 (negsuc 49999) 1 ∷ bid 2 1 3 0 (negsuc 49999) 2 ∷ []) (bid 3 1 3 0 (pos 300000) 4 ∷ bid 2 1 1 0 (negsuc 49999) 1 ∷ [])))
    (gives (2 ∷ 0 ∷ []) (1 ∷ []) (2 ∷ 1 ∷ []) (4 ∷ 0 ∷ []) (negsuc 49999) (pos 125000) (pos 1) (pos 1750000) (entry 2 3 2 (negsuc 9999) ∷ entry 1 3 1 (pos 5000) ∷ entry 2 1 3 (pos 25000) ∷ entry 1 2 2 (pos 12500) ∷ entry 3 1 3 (negsuc 49999) ∷ entry 0 0 0 (pos 17500) ∷ []) (pos 0) (pos 17500 ∷ pos 15000 ∷ negsuc 49999 ∷ [])) ∷
    case (session in_proportion midpoint 4 1 (bids [] (bid 1 3 1 1 (pos 299999) 3 ∷ [])) (bids (bid 1 3 3 1 (negsuc 49998) 3 ∷ bid 2 1 3 0 (negsuc 49999) 3 ∷ bid 1 2 2 0 (pos 299999) 3 ∷ []) (bid 2 1 2 0 (pos 299999) 3 ∷ [])))
    (gives [] (1 ∷ []) (3 ∷ 1 ∷ 0 ∷ []) (3 ∷ []) (pos 299999) (negsuc 49998) (negsuc 0) (pos 1399995) (entry 1 3 1 (negsuc 29999) ∷ entry 2 1 3 (negsuc 14999) ∷ entry 1 3 3 (negsuc 4999) ∷ entry 2 1 2 (pos 15000) ∷ entry 0 0 0 (pos 35000) ∷ []) (pos 0) (negsuc 34999 ∷ pos 0 ∷ pos 0 ∷ [])) ∷
    []
