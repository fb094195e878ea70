mod ByHand
