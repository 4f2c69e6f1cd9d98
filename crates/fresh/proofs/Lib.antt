mod Asked
