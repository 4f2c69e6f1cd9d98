mod InFront
